-- What is said of operations to which those of a part of a tree were to be added.
use Rattle.std.specs.Prelude.{◌≡◌, List, [], ◌∷◌, ◌++◌, ⊤, Result, Ok, Err}
use Rattle.cc_base.specs.declared.kind.Kind.TheVariants as kind
use Rattle.cc_core.specs.declared.straight.StraightOperation.{StraightOperation}
use Rattle.cc_straight.specs.Form.{Judged}
use Rattle.cc_straight.specs.declared.fault.CompileFault.{CompileFault}
use Rattle.cc_straight.specs.declared.fault.CompileFault.TheVariants.{Refused, Memory}

-- the fault tells the first node of the part that isn't built, or want of memory
abbrev pub IsFault : {A : Type 0} → CompileFault → Judged A → Type 0
IsFault Memory judged = ⊤
IsFault (Refused why place) (Ok a) = ⊥
IsFault (Refused why place) (Err span) = Refused why place ≡ Refused kind.NotYet span

-- the operations of what the part is were added
abbrev pub AreAdded : {A : Type 0} → (A → List StraightOperation) → Judged A → List StraightOperation → List StraightOperation → Type 0
AreAdded operations (Ok a) old new = new ≡ old ++ operations a
AreAdded operations (Err span) old new = ⊥

abbrev pub IsAdded : {A B : Type 0} → (A → List StraightOperation) → Result B CompileFault → Judged A → List StraightOperation → List StraightOperation → Type 0
IsAdded operations (Ok done) judged old new = AreAdded operations judged old new
IsAdded operations (Err fault) judged old new = IsFault fault judged

abbrev pub IsPushed : {B : Type 0} → StraightOperation → Result B CompileFault → List StraightOperation → List StraightOperation → Type 0
IsPushed operation (Ok done) old new = new ≡ old ++ operation ∷ []
IsPushed operation (Err fault) old new = fault ≡ Memory

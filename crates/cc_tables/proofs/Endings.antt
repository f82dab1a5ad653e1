-- Zeros behind the bytes of a stream that are used.
use Rattle.std.proofs.Common.{◌≡◌, ℕ, zero, suc, ◌+◌, ◌<◌, ◌≤◌, ltb, true, false, Option, Some, None, List, [], ◌∷◌, length, take, refl, sym, ap, ◌∙◌, arith}
use Rattle.std.proofs.lemmas.Bool.{le-ltb, lt-ltb}
use Rattle.cc_cil.specs.Bodies.{zeros}
use Rattle.cc_layout.specs.declared.field.Field.{Field}
use Rattle.cc_layout.specs.declared.field.FieldFault.{FieldFault}
use Rattle.cc_layout.specs.Layout.{number, fault_of}
use Rattle.cc_tables.specs.declared.fault.TableFault.{TableFault}
use Rattle.cc_tables.specs.declared.fault.TableFault.TheVariants.{BadStream}
use Rattle.cc_tables.specs.Faults.{in_stream, rest_fault}

pub take_zeros : (count : ℕ) (z : Field) → z ≡ number 1 0 → count ≤ 3 → take count (z ∷ z ∷ z ∷ []) ≡ zeros count
take_zeros zero z e h = refl
take_zeros (suc zero) z e h = rw e refl
take_zeros (suc (suc zero)) z e h = rw e refl
take_zeros (suc (suc (suc zero))) z e h = rw e refl
take_zeros (suc (suc (suc (suc count)))) z e h = absurd (omega (arith, h))

module _ (place count : ℕ) (rest : List ℕ) (fields : List Field) (same : fields ≡ zeros count) where
  moved : (r : Option FieldFault) → fault_of place fields rest ≡ r → fault_of place (zeros count) rest ≡ r
  moved r e = ap (λ (x : List Field). fault_of place x rest) (sym same) ∙ e

  pub rest_some : (fault : FieldFault) (found : TableFault) → fault_of place fields rest ≡ Some fault → found ≡ in_stream fault → Some found ≡ rest_fault place count rest
  rest_some fault found e g = rw (moved (Some fault) e, g) refl

  pub rest_more : fault_of place fields rest ≡ None → count < length rest → Some (BadStream (place + count)) ≡ rest_fault place count rest
  rest_more e h =
      let more : ltb count (length rest) ≡ true = lt-ltb count (length rest) h in
      rw (moved None e, more) refl

  pub rest_none : fault_of place fields rest ≡ None → length rest ≤ count → None ≡ rest_fault place count rest
  rest_none e h =
      let no : ltb count (length rest) ≡ false = le-ltb count (length rest) h in
      rw (moved None e, no) refl

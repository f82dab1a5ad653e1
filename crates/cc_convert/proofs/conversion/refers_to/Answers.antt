use Rattle.std.proofs.Common.{refl, ap}
use Rattle.std.proofs.lemmas.Bool.{eq-eqb}
use Rattle.cc_core.specs.Types.{bare}
use Rattle.cc_convert.specs.Conversions.{is_handle}
use Rattle.cc_convert.proofs.Rules.{refers-object, refers-class, refers-array, refers-null}
use Rattle.cc_convert.proofs.conversion.refers_to.Goals as goal

pub returns-then-target : goal.returns-then-target
returns-then-target c =
    let i = ap (λ of. is_handle (bare of)) c.in-Handle.is in
    refers-object _ _ _ _ i c.if-target.true (eq-eqb _ _ c.if-target.true)

pub returns-else-target : goal.returns-else-target
returns-else-target c = refers-class _ _ _ _ _ (ap bare c.in-Handle.is) c.if-target.false c.derives.ensures

pub returns-in-Array : goal.returns-in-Array
returns-in-Array c = refers-array _ _ _ _ (ap bare c.in-Array.is)

pub returns-in-Null : goal.returns-in-Null
returns-in-Null c = refers-null _ _ _ (ap bare c.in-Null.is) refl

use Rattle.std.proofs.Common.{◌≡◌, drop, map}
use Rattle.cc_forms.specs.Forms.{first_of, outer_form}
use Rattle.cc_forms.proofs.outers.+outer.Given as goal

abbrev pub invariant-outers-outers : goal.invariant-outers-outers
invariant-outers-outers l = first_of (map outer_form (drop l.outer-index l.outers)) ≡ first_of (map outer_form l.initial.outers)

-- What stands outside classes, as the code holds it.
use Rattle.std.specs.Prelude.{List, map}
use Rattle.cc_names.specs.declared.standing.Outermost.{Outermost}
use Rattle.cc_names.specs.declared.standing.Outermost.TheVariants as held
use Rattle.cc_names.specs.declared.standing.Standing.{Standing}
use Rattle.cc_names.specs.Outermost as spec

abbrev pub told : Outermost → spec.Outermost
told (held.Directive names span) = spec.directive names.now span
told held.Part = spec.part
told (held.Class one) = spec.class_ one.now
told (held.Enumeration one) = spec.enumeration one.now
told (held.Forward name) = spec.forward name.now
told (held.Template one) = spec.template one.now
told (held.Function one) = spec.function one.now

abbrev pub told_one : Standing → spec.Standing
told_one one = record { path = one.path; what = told one.what }

abbrev pub told_all : List Standing → List spec.Standing
told_all all = map told_one all

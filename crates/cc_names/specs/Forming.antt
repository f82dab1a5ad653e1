-- Which types are formed (ECMA-372, 12), and what each written type is refused for: a name that is not found, or a type that cannot stand there. The place is the innermost node with the fault.
use Rattle.std.specs.Prelude.{ℕ, List, [], ◌∷◌, map, codes, Bool, true, false, cond, ◌&&◌, ◌||◌, not, ◌==◌, length, Option, Some, None}
use Rattle.std.specs.Str.{bytes_eq}
use Rattle.cc_base.specs.declared.text.Span.{Span}
use Rattle.cc_tree.specs.declared.identifier.Identifier.{Identifier}
use Rattle.cc_tree.specs.declared.type_name.FundamentalType.{FundamentalType}
use Rattle.cc_tree.specs.declared.type_name.FundamentalType.TheVariants as f
use Rattle.cc_tree.specs.declared.type_name.TypeName.{TypeName, TypeName-F, fold-TypeName}
use Rattle.cc_tree.specs.declared.type_name.TypeName.TheOpen as t
use Rattle.cc_names.specs.declared.refusal.NameKind.{NameKind}
use Rattle.cc_names.specs.declared.refusal.NameKind.TheVariants as kind
use Rattle.cc_names.specs.declared.known.Form.{Form}
use Rattle.cc_names.specs.declared.known.Form.TheVariants as form
use Rattle.cc_names.specs.declared.known.Known.{Known}
use Rattle.cc_names.specs.declared.refusal.Refusal.{Refusal}
use Rattle.cc_names.specs.declared.forming.Judged.{Judged}
use Rattle.cc_names.specs.declared.forming.Sort.{Sort}
use Rattle.cc_names.specs.declared.forming.Sort.TheVariants as sort
use Rattle.cc_names.specs.declared.forming.Purpose.{Purpose}
use Rattle.cc_names.specs.declared.forming.Purpose.TheVariants as purpose
use Rattle.cc_names.specs.Checks.{Checks, none, refused_if, both, joined, run}
use Rattle.cc_names.specs.Outermost.{Path}
use Rattle.cc_names.specs.Types.{found_type}
use Rattle.cc_names.specs.Spaces.{Space}

-- What is told of a written type: what it is, and what it is refused for.
pub record Judgement : Type 0 where
  pub span : Span
  pub sort : Sort
  pub checks : Checks

-- what is told, after the refusals so far
abbrev pub told : Judgement → Option Refusal → Judged
told judgement so_far = record { span = judgement.span; first = run judgement.checks so_far; sort = judgement.sort }

-- a value, an enum or a handle; a type that is refused already is not refused again
abbrev pub is_value : Sort → Bool
is_value sort.Refused = true
is_value sort.NoValue = false
is_value sort.PlainValue = true
is_value (sort.Object can_refer) = false
is_value sort.Handle = true
is_value sort.Tracking = false

abbrev pub is_no_value : Sort → Bool
is_no_value sort.Refused = false
is_no_value sort.NoValue = true
is_no_value sort.PlainValue = false
is_no_value (sort.Object can_refer) = false
is_no_value sort.Handle = false
is_no_value sort.Tracking = false

abbrev pub is_object : Sort → Bool
is_object sort.Refused = false
is_object sort.NoValue = false
is_object sort.PlainValue = false
is_object (sort.Object can_refer) = true
is_object sort.Handle = false
is_object sort.Tracking = false

abbrev pub is_tracking : Sort → Bool
is_tracking sort.Refused = false
is_tracking sort.NoValue = false
is_tracking sort.PlainValue = false
is_tracking (sort.Object can_refer) = false
is_tracking sort.Handle = false
is_tracking sort.Tracking = true

abbrev pub may_be_referred_to : Sort → Bool
may_be_referred_to sort.Refused = true
may_be_referred_to sort.NoValue = false
may_be_referred_to sort.PlainValue = false
may_be_referred_to (sort.Object can_refer) = can_refer
may_be_referred_to sort.Handle = false
may_be_referred_to sort.Tracking = false

abbrev pub sort_of : Form → Sort
sort_of form.Value = sort.PlainValue
sort_of form.Handle = sort.Object true
sort_of form.Interface = sort.Object true
sort_of form.NamedOnly = sort.Object false

abbrev pub fundamental_sort : FundamentalType → Sort
fundamental_sort f.Void = sort.NoValue
fundamental_sort f.Bool = sort.PlainValue
fundamental_sort f.WideChar = sort.PlainValue
fundamental_sort f.SignedChar = sort.PlainValue
fundamental_sort f.UnsignedChar = sort.PlainValue
fundamental_sort f.Short = sort.PlainValue
fundamental_sort f.UnsignedShort = sort.PlainValue
fundamental_sort f.Int = sort.PlainValue
fundamental_sort f.UnsignedInt = sort.PlainValue
fundamental_sort f.LongLong = sort.PlainValue
fundamental_sort f.UnsignedLongLong = sort.PlainValue

abbrev pub formed : Span → Sort → Judgement
formed span of = record { span = span; sort = of; checks = none }

abbrev pub refused_as : NameKind → Span → Judgement
refused_as kind span = record { span = span; sort = sort.Refused; checks = refused_if true kind span }

-- `array` takes one argument
abbrev pub array_judged : Span → ℕ → Judgement
array_judged span arguments = cond (arguments == 1) (formed span (sort.Object true)) (refused_as kind.NotAType span)

-- arguments stand after a template alone; how many it takes is not tested here
abbrev pub named_judged : Span → Option Known → ℕ → Judgement
named_judged span None arguments = refused_as kind.UnknownName span
named_judged span (Some type_) arguments = cond (type_.is_template || arguments == 0) (formed span (sort_of type_.form)) (refused_as kind.NotAType span)

-- an argument, or the element of an array, is a value, an enum or a handle
abbrev pub argument_checks : Judgement → Checks
argument_checks argument = both argument.checks (refused_if (not (is_value argument.sort)) kind.NotAType argument.span)

abbrev pub with_arguments : List Judgement → Judgement → Judgement
with_arguments arguments one = record { span = one.span; sort = one.sort; checks = both (joined (map argument_checks arguments)) one.checks }

abbrev pub is_array : List Identifier → List ℕ → Bool
is_array [] name = bytes_eq name (codes "array")
is_array (outer ∷ path) name = false

-- with a `^`: a handle to a class
abbrev pub with_handle : Span → Judgement → Judgement
with_handle span core = record {
  span = span;
  sort = cond (may_be_referred_to core.sort) sort.Handle sort.Refused;
  checks = both core.checks (refused_if (not (may_be_referred_to core.sort)) kind.NotAType span);
}

-- with a `%`: a value, an enum or a handle that is tracked
abbrev pub with_tracking : Span → Judgement → Judgement
with_tracking span core = record {
  span = span;
  sort = cond (is_value core.sort) sort.Tracking sort.Refused;
  checks = both core.checks (refused_if (not (is_value core.sort)) kind.NotAType span);
}

-- the same of what was told so far
abbrev pub handled : Span → Judged → Judged
handled span core = record {
  span = span;
  first = run (refused_if (not (may_be_referred_to core.sort)) kind.NotAType span) core.first;
  sort = cond (may_be_referred_to core.sort) sort.Handle sort.Refused;
}

abbrev pub tracked : Span → Judged → Judged
tracked span core = record {
  span = span;
  first = run (refused_if (not (is_value core.sort)) kind.NotAType span) core.first;
  sort = cond (is_value core.sort) sort.Tracking sort.Refused;
}

abbrev pub marked : Span → Bool → Bool → Judged → Judged
marked span is_handle tracks core =
    let referring = cond is_handle (handled span core) core in
    cond tracks (tracked span referring) referring

abbrev pub marked_judged : Span → Bool → Bool → Judgement → Judgement
marked_judged span is_handle tracks core =
    let referring = cond is_handle (with_handle span core) core in
    cond tracks (with_tracking span referring) referring

-- what may be named, and the namespace around the place
module _ (space : Space) (path : Path) where
  -- A name begins where its first part does.
  abbrev pub judge_layer : TypeName-F Judgement → Judgement
  judge_layer (t.Fundamental of span) = formed span (fundamental_sort of)
  judge_layer (t.Named qualifiers name arguments span) =
      with_arguments arguments
      (cond (is_array qualifiers name.name) (array_judged span (length arguments))
      (named_judged span (found_type space.types space.names space.directives (record { path = path; at = span.first }) qualifiers name.name) (length arguments)))
  judge_layer (t.Marked core is_handle tracks span) = marked_judged span is_handle tracks core

  abbrev pub judged : TypeName → Judgement
  judged = fold-TypeName Judgement judge_layer

-- Which sorts may stand for a purpose. A local or a field of a bare class is held by stack semantics, which static fields have not.
abbrev pub is_fit : Purpose → Sort → Bool
is_fit purpose.Value of = is_value of
is_fit purpose.Result of = is_value of || is_no_value of
is_fit purpose.Parameter of = is_value of || is_tracking of
is_fit (purpose.Local is_initialised) of = is_value of || is_object of || (is_initialised && is_tracking of)
is_fit (purpose.Field is_static) of = is_value of || (not is_static && is_object of)
is_fit purpose.NamedOnly of = not (is_no_value of)

-- what a written type is refused for
abbrev pub type_checks : Space → Path → Purpose → TypeName → Checks
type_checks space path for of =
    let one = judged space path of in
    both one.checks (refused_if (not (is_fit for one.sort)) kind.NotAType one.span)

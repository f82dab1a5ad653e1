-- What the typing of a part of a function does to what is known of its variables.
use Rattle.std.proofs.Common.{◌≡◌, ℕ, false, List, [], ◌∷◌, ◌++◌, length, Some, slice_get, refl, sym, ap, ◌∙◌, subst, append_assoc, append-nil}
use Rattle.cc_tree.specs.declared.type_name.FundamentalType.{FundamentalType}
use Rattle.cc_core.specs.Types.{BareType}
use Rattle.cc_operations.specs.declared.source.Frame.{Frame}
use Rattle.cc_operations.specs.Choosing.{Types}
use Rattle.cc_operations.specs.Numbers.{core, is_void}
use Rattle.cc_statements.specs.Steps.{local_id, with_temporary, with_variable, left}
use Rattle.cc_typing_laws.proofs.Calls.{HaveValues}
use Rattle.cc_typing_laws.proofs.Expressions.{FitsVariable}
use Rattle.cc_typing_laws.proofs.Lists.{Each, get_front, get_next, each_append, each_take}

pub values_append : (one other : Types) → HaveValues one → HaveValues other → HaveValues (one ++ other)
values_append [] other h k = k
values_append (of ∷ one) other h k = (h.0, values_append one other h.1 k)

-- ---- the variables of a function

-- Behind a part a function has the variables that it had, and perhaps more, each of a type that has values.
pub record Grown (before after : Frame) : Type 0 where
  pub more : Types
  pub locals : after.locals ≡ before.locals ++ more
  pub valued : HaveValues more

pub grown_none : (frame : Frame) → Grown frame frame
grown_none frame = record { more = []; locals = sym (append-nil frame.locals); valued = tt }

pub grown_both : (one two three : Frame) → Grown one two → Grown two three → Grown one three
grown_both one two three first second = record {
  more = first.more ++ second.more;
  locals = second.locals ∙ ap (λ locals. locals ++ second.more) first.locals ∙ append_assoc one.locals first.more second.more;
  valued = values_append first.more second.more first.valued second.valued;
}

-- the variables of a body are those of the function so far, and perhaps more
abbrev pub Covers : List BareType → Frame → Type 0
Covers locals frame = (at : ℕ) (of : FundamentalType) → slice_get frame.locals at ≡ Some of → slice_get locals at ≡ Some (core of)

pub covers_before : (locals : List BareType) (before after : Frame) → Grown before after → Covers locals after → Covers locals before
covers_before locals before after grown covers at of e =
    covers at of (subst (λ all. slice_get all at ≡ Some of) (sym grown.locals) (get_front before.locals grown.more at of e))

-- a function of which the variables that can be named are those of the body, and which has this result
pub record Ready (locals : List BareType) (result : FundamentalType) (frame : Frame) : Type 0 where
  pub variables : Each (FitsVariable locals) frame.variables
  pub result_is : frame.result ≡ result

pub ready_left : (locals : List BareType) (result : FundamentalType) (before after : Frame) → Ready locals result after → Ready locals result (left before after)
ready_left locals result before after ready =
    record { variables = each_take (FitsVariable locals) (length before.variables) after.variables ready.variables; result_is = ready.result_is }

pub grown_left : (one before after : Frame) → Grown one after → Grown one (left before after)
grown_left one before after grown = record { more = grown.more; locals = grown.locals; valued = grown.valued }

pub grown_temporary : (of : FundamentalType) (frame : Frame) → is_void of ≡ false → Grown frame (with_temporary of frame)
grown_temporary of frame v = record { more = of ∷ []; locals = refl; valued = (v, tt) }

pub grown_variable : (of : FundamentalType) (name : List ℕ) (frame : Frame) → is_void of ≡ false → Grown frame (with_variable of name frame)
grown_variable of name frame v = record { more = of ∷ []; locals = refl; valued = (v, tt) }

pub ready_temporary : (locals : List BareType) (result of : FundamentalType) (frame : Frame) → Ready locals result frame → Ready locals result (with_temporary of frame)
ready_temporary locals result of frame ready = record { variables = ready.variables; result_is = ready.result_is }

pub ready_variable : (locals : List BareType) (result of : FundamentalType) (name : List ℕ) (frame : Frame) → is_void of ≡ false → Covers locals (with_variable of name frame) → Ready locals result frame
    → Ready locals result (with_variable of name frame)
ready_variable locals result of name frame v covers ready = record {
  variables = each_append (FitsVariable locals) frame.variables (record { name = name; of = of; local = local_id (length frame.locals) } ∷ []) ready.variables
      ((covers (length frame.locals) of (get_next frame.locals [] of), v), tt);
  result_is = ready.result_is;
}

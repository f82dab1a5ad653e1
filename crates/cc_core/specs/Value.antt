-- What an expression does (ECMA-372, 15; evaluation is from left to right).
use Rattle.std.specs.Prelude.{ℕ, ◌%◌, ◌^◌, List, [], ◌∷◌, ◌++◌, true, false, Ok, Err}
use Rattle.cc_base.specs.declared.identifiers.MethodId.{MethodId}
use Rattle.cc_core.specs.declared.state.Root.TheVariants as root
use Rattle.cc_core.specs.declared.state.Stop.TheVariants.{Wrong}
use Rattle.cc_core.specs.declared.state.Target.{Target}
use Rattle.cc_core.specs.declared.tree.Dispatch.{Dispatch}
use Rattle.cc_core.specs.declared.tree.Dispatch.TheVariants.{Direct, Virtual}
use Rattle.cc_core.specs.declared.tree.UpdateResult.{UpdateResult}
use Rattle.cc_core.specs.declared.tree.UpdateResult.TheVariants.{New, Old}
use Rattle.cc_core.specs.declared.types.ClassInfo.{ClassInfo}
use Rattle.cc_core.specs.declared.types.Operator.{Operator}
use Rattle.cc_core.specs.declared.world.Value.{Value}
use Rattle.cc_core.specs.Types.{BareType}
use Rattle.cc_core.specs.Term as term
use Rattle.cc_core.specs.Term.{Term, Terms, type_of}
use Rattle.cc_core.specs.Numbers.{is_wide, number, is_true}
use Rattle.cc_core.specs.LibraryCalls.{library}
use Rattle.cc_core.specs.Run.{Does, Calls, gives, bind, tick, read_local, write_local, read_target, write_target, convert, operate, operate_alone, by_truth, truth_value}

-- the bits of a constant of a type
abbrev pub constant : BareType → ℕ → Value
constant type n = elim (is_wide type) [ true ↦ number true n | false ↦ number false (n % 2 ^ 32) ]

-- the value that an update gives, of that which it stored and that which stood there before
abbrev pub updated : UpdateResult → Value → Value → Value
updated New stored before = stored
updated Old stored before = before

-- an update of a target of the first type, once its operand is evaluated: the operator works in the second type
abbrev pub update : BareType → Operator → BareType → UpdateResult → Target → Value → Value → Does Value
update type operator common result at before u s =
    bind (convert type common before s) (λ v s1. bind (operate common operator v u s1) (λ x s2.
    bind (convert common type x s2) (λ changed s3. bind (write_target at changed s3) (λ stored. gives (updated result stored before)))))

-- the call of a function, or of that which overrides it in the class of its first argument
abbrev pub dispatched : Calls → Dispatch → MethodId → List Value → Does Value
dispatched k Direct m vs = k m vs
dispatched k Virtual m vs = λ s. (Err Wrong, s)

abbrev mutual
  pub value_of : List ClassInfo → Calls → Term → Does Value
  value_of w k (term.Number type n) s = (Ok (constant type n), tick s)
  value_of w k (term.Local type x) s = read_local x (tick s)
  value_of w k (term.Convert type a) s = bind (value_of w k a (tick s)) (convert (type_of a) type)
  value_of w k (term.Unary type operator a) s = bind (value_of w k a (tick s)) (operate_alone operator)
  value_of w k (term.Binary type operator a b) s =
      bind (value_of w k a (tick s)) (λ v s1. bind (value_of w k b s1) (operate (type_of a) operator v))
  value_of w k (term.And type a b) s =
      bind (value_of w k a (tick s)) (λ v. by_truth v (λ s1. bind (value_of w k b s1) (λ u. gives (truth_value (is_true u)))) (gives (truth_value false)))
  value_of w k (term.Or type a b) s =
      bind (value_of w k a (tick s)) (λ v. by_truth v (gives (truth_value true)) (λ s1. bind (value_of w k b s1) (λ u. gives (truth_value (is_true u)))))
  value_of w k (term.Choose type c a b) s = bind (value_of w k c (tick s)) (λ v. by_truth v (value_of w k a) (value_of w k b))
  value_of w k (term.Assign type a b) s =
      bind (target_of w k a (tick s)) (λ at s1. bind (value_of w k b s1) (write_target at))
  value_of w k (term.Update type operator common result a b) s =
      bind (target_of w k a (tick s)) (λ at s1. bind (read_target at s1) (λ before s2.
      bind (value_of w k b s2) (update type operator common result at before)))
  value_of w k (term.Call type m dispatch arguments) s = bind (values_of w k arguments [] (tick s)) (dispatched k dispatch m)
  value_of w k (term.Library type call arguments) s = bind (values_of w k arguments [] (tick s)) (library call)
  value_of w k (term.Let type x a b) s =
      bind (value_of w k a (tick s)) (λ v s1. bind (write_local x v s1) (λ done. value_of w k b))
  value_of w k (term.Then type a b) s = bind (value_of w k a (tick s)) (λ done. value_of w k b)
  value_of w k _ s = (Err Wrong, tick s)

  -- the place that an expression names, by the values of its parts, before its tests
  pub target_of : List ClassInfo → Calls → Term → Does Target
  target_of w k (term.Local type x) s = (Ok (record { root = root.Local x; path = [] }), tick s)
  target_of w k _ s = (Err Wrong, tick s)

  -- the values of arguments, from left to right, behind those that are known
  pub values_of : List ClassInfo → Calls → Terms → List Value → Does (List Value)
  values_of w k term.no_terms vs s = (Ok vs, s)
  values_of w k (term.next_term a rest) vs s = bind (value_of w k a s) (λ v. values_of w k rest (vs ++ v ∷ []))

-- With more turns an expression that was going goes on, and any other is the same.
use Rattle.std.proofs.Common.{◌≡◌, List, [], ◌∷◌, ◌++◌, Bool, true, false, Ok, Err, refl, subst}
use Rattle.cc_base.specs.declared.identifiers.MethodId.{MethodId}
use Rattle.cc_core.specs.declared.state.State.{State}
use Rattle.cc_core.specs.declared.state.Stop.TheVariants.{Throws, HeapLimit, DepthLimit, Going, Wrong}
use Rattle.cc_core.specs.declared.tree.Dispatch.{Dispatch}
use Rattle.cc_core.specs.declared.tree.Dispatch.TheVariants.{Direct, Virtual}
use Rattle.cc_core.specs.declared.state.Target.{Target}
use Rattle.cc_core.specs.declared.tree.UpdateResult.{UpdateResult}
use Rattle.cc_core.specs.declared.types.ClassInfo.{ClassInfo}
use Rattle.cc_core.specs.declared.types.Operator.{Operator}
use Rattle.cc_core.specs.Types.{BareType}
use Rattle.cc_core.specs.declared.world.Value.{Value}
use Rattle.cc_core.specs.Term as term
use Rattle.cc_core.specs.Term.{Term, Terms, type_of}
use Rattle.cc_core.specs.Numbers.{is_true}
use Rattle.cc_core.specs.Run.{Ran, Does, Calls, bind, gives, tick, by_truth}
use Rattle.cc_core.specs.Value.{value_of, target_of, values_of, update, dispatched}
use Rattle.cc_region.proofs.Grown.{Grown, same_grown, grown_on, tick_grown, Grows, gives_grows, read_local_grows, write_local_grows, read_target_grows, write_target_grows, convert_grows, operate_grows, operate_alone_grows, library_grows}

-- the second run is the first, or goes on where that one was going
abbrev pub Continues : {A : Type 0} → Ran A → Ran A → Type 0
Continues (Ok a, s) r = (Ok a, s) ≡ r
Continues (Err Going, s) r = Grown s r.1
Continues (Err (Throws at), s) r = (Err (Throws at), s) ≡ r
Continues (Err HeapLimit, s) r = (Err HeapLimit, s) ≡ r
Continues (Err DepthLimit, s) r = (Err DepthLimit, s) ≡ r
Continues (Err Wrong, s) r = (Err Wrong, s) ≡ r

pub same_continues : {A : Type 0} (r : Ran A) → Continues r r
same_continues (Ok a, s) = refl
same_continues (Err Going, s) = same_grown s
same_continues (Err (Throws at), s) = refl
same_continues (Err HeapLimit, s) = refl
same_continues (Err DepthLimit, s) = refl
same_continues (Err Wrong, s) = refl

pub record Follows {A : Type 0} (f g : Does A) : Type 0 where
  pub by : (s : State) → Continues (f s) (g s)
  pub grows : (s : State) → Grown s (g s).1

pub same_follows : {A : Type 0} {f : Does A} → Grows f → Follows f f
same_follows {A} {f} h = record { by = λ s. same_continues (f s); grows = h.by }

module _ {A B : Type 0} where
  bind_grown : (r : Ran A) (k : A → Does B) → ((a : A) (s : State) → Grown s (k a s).1) → Grown r.1 (bind r k).1
  bind_grown (Ok a, s) k h = h a s
  bind_grown (Err e, s) k h = same_grown s

  bind_continues : (r r' : Ran A) (k k' : A → Does B) → Continues r r' → ((a : A) → Follows (k a) (k' a)) → Continues (bind r k) (bind r' k')
  bind_continues (Ok a, s) r' k k' e h = subst (λ r. Continues (k a s) (bind r k')) e ((h a).by s)
  bind_continues (Err Going, s) r' k k' e h = grown_on e (bind_grown r' k' (λ a t. (h a).grows t))
  bind_continues (Err (Throws at), s) r' k k' e h = subst (λ r. Continues {A = B} (Err (Throws at), s) (bind r k')) e refl
  bind_continues (Err HeapLimit, s) r' k k' e h = subst (λ r. Continues {A = B} (Err HeapLimit, s) (bind r k')) e refl
  bind_continues (Err DepthLimit, s) r' k k' e h = subst (λ r. Continues {A = B} (Err DepthLimit, s) (bind r k')) e refl
  bind_continues (Err Wrong, s) r' k k' e h = subst (λ r. Continues {A = B} (Err Wrong, s) (bind r k')) e refl

  pub bind_follows : {f g : Does A} {k k' : A → Does B} → Follows f g → ((a : A) → Follows (k a) (k' a)) → Follows (λ s. bind (f s) k) (λ s. bind (g s) k')
  bind_follows {f} {g} {k} {k'} a h = record {
    by = λ s. bind_continues (f s) (g s) k k' (a.by s) h;
    grows = λ s. grown_on (a.grows s) (bind_grown (g s) k' (λ v t. (h v).grows t));
  }

pub tick_follows : {A : Type 0} {f g : Does A} → Follows f g → Follows (λ s. f (tick s)) (λ s. g (tick s))
tick_follows {A} {f} {g} a = record {
  by = λ s. a.by (tick s);
  grows = λ s. grown_on (tick_grown s) (a.grows (tick s));
}

bool_follows : {A : Type 0} {a a' b b' : Does A} (c : Bool) → Follows a a' → Follows b b' → Follows (λ s. elim c [ true ↦ a s | false ↦ b s ]) (λ s. elim c [ true ↦ a' s | false ↦ b' s ])
bool_follows true f g = record { by = f.by; grows = f.grows }
bool_follows false f g = record { by = g.by; grows = g.grows }

pub truth_follows : {A : Type 0} {a a' b b' : Does A} (v : Value) → Follows a a' → Follows b b' → Follows (by_truth v a b) (by_truth v a' b')
truth_follows v f g = bool_follows (is_true v) f g

pub gives_follows : {A : Type 0} {a : A} → Follows (gives a) (gives a)
gives_follows = same_follows gives_grows

pub wrong_follows : {A : Type 0} → Follows {A = A} (λ s. (Err Wrong, s)) (λ s. (Err Wrong, s))
wrong_follows = record { by = λ s. refl; grows = same_grown }

pub record CallsFollow (k k' : Calls) : Type 0 where
  pub at : (m : MethodId) (vs : List Value) → Follows (k m vs) (k' m vs)

update_follows : (type : BareType) (operator : Operator) (common : BareType) (result : UpdateResult) (at : Target) (before u : Value)
    → Follows (update type operator common result at before u) (update type operator common result at before u)
update_follows type operator common result at before u =
    bind_follows (same_follows (convert_grows type common before)) (λ v. bind_follows (same_follows (operate_grows common operator v u)) (λ x.
    bind_follows (same_follows (convert_grows common type x)) (λ changed. bind_follows (same_follows (write_target_grows at changed)) (λ stored. gives_follows))))

dispatched_follows : (k k' : Calls) → CallsFollow k k' → (dispatch : Dispatch) (m : MethodId) (vs : List Value) → Follows (dispatched k dispatch m vs) (dispatched k' dispatch m vs)
dispatched_follows k k' h Direct m vs = h.at m vs
dispatched_follows k k' h Virtual m vs = wrong_follows

module _ (w : List ClassInfo) (k k' : Calls) (h : CallsFollow k k') where
  mutual
    pub value_follows : (e : Term) → Follows (value_of w k e) (value_of w k' e)
    value_follows (term.Number type n) = tick_follows gives_follows
    value_follows (term.Local type x) = tick_follows (same_follows (read_local_grows x))
    value_follows (term.Convert type a) = bind_follows (tick_follows (value_follows a)) (λ v. same_follows (convert_grows (type_of a) type v))
    value_follows (term.Unary type operator a) = bind_follows (tick_follows (value_follows a)) (λ v. same_follows (operate_alone_grows operator v))
    value_follows (term.Binary type operator a b) =
        bind_follows (tick_follows (value_follows a)) (λ v. bind_follows (value_follows b) (λ u. same_follows (operate_grows (type_of a) operator v u)))
    value_follows (term.And type a b) =
        bind_follows (tick_follows (value_follows a)) (λ v. truth_follows v (bind_follows (value_follows b) (λ u. gives_follows)) gives_follows)
    value_follows (term.Or type a b) =
        bind_follows (tick_follows (value_follows a)) (λ v. truth_follows v gives_follows (bind_follows (value_follows b) (λ u. gives_follows)))
    value_follows (term.Choose type c a b) =
        bind_follows (tick_follows (value_follows c)) (λ v. truth_follows v (value_follows a) (value_follows b))
    value_follows (term.Assign type a b) =
        bind_follows (tick_follows (target_follows a)) (λ at. bind_follows (value_follows b) (λ v. same_follows (write_target_grows at v)))
    value_follows (term.Update type operator common result a b) =
        bind_follows (tick_follows (target_follows a)) (λ at. bind_follows (same_follows (read_target_grows at)) (λ before.
        bind_follows (value_follows b) (λ u. update_follows type operator common result at before u)))
    value_follows (term.Call type m dispatch l) = bind_follows (tick_follows (values_follow l [])) (λ vs. dispatched_follows k k' h dispatch m vs)
    value_follows (term.Library type call l) = bind_follows (tick_follows (values_follow l [])) (λ vs. same_follows (library_grows call vs))
    value_follows (term.Let type x a b) =
        bind_follows (tick_follows (value_follows a)) (λ v. bind_follows (same_follows (write_local_grows x v)) (λ done. value_follows b))
    value_follows (term.Then type a b) = bind_follows (tick_follows (value_follows a)) (λ done. value_follows b)
    value_follows _ = tick_follows wrong_follows

    pub target_follows : (e : Term) → Follows (target_of w k e) (target_of w k' e)
    target_follows (term.Local type x) = tick_follows gives_follows
    target_follows _ = tick_follows wrong_follows

    pub values_follow : (l : Terms) (vs : List Value) → Follows (values_of w k l vs) (values_of w k' l vs)
    values_follow term.no_terms vs = gives_follows
    values_follow (term.next_term e rest) vs = bind_follows (value_follows e) (λ v. values_follow rest (vs ++ v ∷ []))

-- How many tokens a straight unit takes, and how many values it holds at a time.
use Rattle.std.proofs.Common.{◌≡◌, ◌≤◌, ℕ, List, [], ◌∷◌, length, map, ◌∙◌, refl, sym, ap, true≢false, arith}
use Rattle.std.specs.Prelude.{Bool, true, false, Option, Some, None, Ok, Err, ◌^◌, if◌then◌else◌}
use Rattle.std.proofs.lemmas.List.{length-map}
use Rattle.cc_base.specs.declared.text.Span.{Span}
use Rattle.cc_tree.specs.declared.token.Token.{Token}
use Rattle.cc_tree.specs.declared.type_name.TypeName.{TypeName, out-TypeName}
use Rattle.cc_tree.specs.declared.type_name.TypeName.TheVariants as type
use Rattle.cc_tree.specs.declared.terminal.ReservedWord.{ReservedWord}
use Rattle.cc_tree.specs.declared.member.Parameters.{Parameters}
use Rattle.cc_tree.specs.declared.statement.Block.{Block}
use Rattle.cc_tree.specs.declared.unit.Unit as unit
use Rattle.cc_tree.specs.declared.unit.Function.{Function}
use Rattle.cc_tree.specs.declared.unit.Outer.{Outer, Outer-F, out-Outer, roll-Outer, out-roll-Outer, fold-roll-Outer}
use Rattle.cc_tree.specs.declared.unit.Outer.TheOpen as layer
use Rattle.cc_tree.specs.declared.unit.Outer.TheVariants as o
use Rattle.cc_tree.specs.Terminals.{Classified, at, classify, terminal}
use Rattle.cc_tree.specs.CollectedNames.{collected}
use Rattle.cc_tree.specs.GrammarTypes as gt
use Rattle.cc_tree.specs.GrammarTypes.{ReadsType, ReadsWords}
use Rattle.cc_tree.specs.GrammarMembers as gm
use Rattle.cc_tree.specs.GrammarMembers.{ReadsParameters}
use Rattle.cc_tree.specs.GrammarUnit as g
use Rattle.cc_tree.specs.GrammarUnit.{ReadsFunction, ReadsOuter, ReadsOuters}
use Rattle.cc_tree.specs.Depth.{greatest, function_depth, outer_depth, outer_layer}
use Rattle.cc_grammar.specs.Parse.{Accepts}
use Rattle.cc_core.specs.StraightSource.{Source}
use Rattle.cc_straight.specs.Straight.{IsSmall, greatest_height}
use Rattle.cc_straight.specs.Form.{Judged, IsStraight, is_int, parameters_source, block_source, alone, main_source, first_source, outers_source, is_any, has_function}
use Rattle.cc_straight.proofs.Terms.{not_both}
use Rattle.cc_straight.proofs.Blocks.{SmallSource, block_small}

words_take : {words : List ReservedWord} {span : Span} {ts rest : List Classified} → ReadsWords words span ts rest → length rest ≤ length ts
words_take gt.last = omega arith
words_take (gt.more p) = let a = words_take p in omega (arith, a)

int_takes : {of : TypeName} {span : Span} {ts rest : List Classified} → ReadsType of span ts rest → is_int (out-TypeName of) ≡ true → length rest ≤ length ts
int_takes (gt.core (gt.fundamental f p)) h = words_take p
int_takes (gt.core (gt.named (gt.alone p))) h = absurd (true≢false (sym h ∙ ap is_int (type.outs-Named _ _ [] _)))
int_takes (gt.core (gt.named (gt.applied {arguments = arguments} p q))) h = absurd (true≢false (sym h ∙ ap is_int (type.outs-Named _ _ arguments _)))
int_takes (gt.handle {core = core} p) h = absurd (true≢false (sym h ∙ ap is_int (type.outs-Marked core true false _)))
int_takes (gt.tracking {core = core} p) h = absurd (true≢false (sym h ∙ ap is_int (type.outs-Marked core false true _)))
int_takes (gt.handle_tracking {core = core} p) h = absurd (true≢false (sym h ∙ ap is_int (type.outs-Marked core true true _)))

-- where no parameters stand, two signs do
no_parameters : {parameters : Parameters} {ts rest : List Classified} → ReadsParameters parameters ts rest → (body : Judged Source) (s : Source) → parameters_source parameters.items parameters.span body ≡ Ok s
    → (length rest ≤ length ts) × (body ≡ Ok s)
no_parameters gm.none body s h = (omega arith, h)
no_parameters (gm.some {items = []} p) body s h = elim p [ ]
no_parameters (gm.some {items = one ∷ items} p) body s h = absurd (not_both refl h)

function_parts : (b : Bool) (of : Span) (inner : Judged Source) (s : Source) → (if b then inner else Err of) ≡ Ok s → (b ≡ true) × (inner ≡ Ok s)
function_parts true of inner s h = (refl, h)
function_parts false of inner s h = absurd (not_both refl h)

main_parts : (b : Bool) (of : Span) (inner : Judged Source) (outers : List Outer) (s : Source) → (if b then alone inner outers else Err of) ≡ Ok s → (outers ≡ []) × (inner ≡ Ok s)
main_parts false of inner outers s h = absurd (not_both refl h)
main_parts true of (Err span) [] s h = absurd (not_both refl h)
main_parts true of (Err span) (outer ∷ outers) s h = absurd (not_both refl h)
main_parts true of (Ok source) [] s h = (refl, h)
main_parts true of (Ok source) (outer ∷ outers) s h = absurd (not_both refl h)

function_small : {function : Function} {ts rest : List Classified} (most : ℕ) → ReadsFunction function ts rest → function_depth function ≤ most → (outers : List Outer) (s : Source) → main_source function function.body outers ≡ Ok s
    → SmallSource most s (length ts) (length rest)
function_small most (g.function_ p i q gm.none) deep outers s h = absurd (not_both refl h)
function_small most (g.function_ {result = result} {id = id} {parameters = parameters} {first = first} {last = last} {k = k} p i q (gm.some {body = body} r)) deep outers s h =
    let whole = main_parts _ _ _ outers s h in
    let typed = function_parts (is_int (out-TypeName result)) _ _ s whole.1 in
    let inner = no_parameters q (block_source body) s typed.1 in
    let word = int_takes p typed.0 in
    let a = block_small most r (omega (arith, deep)) s inner.1 in
    let few = a.few in
    record { few = omega (arith, few, word, inner.0); lines_low = a.lines_low; result_low = a.result_low }

abbrev IsOther : Outer-F Outer → Type 0
IsOther (layer.Function function) = ⊥
IsOther _ = Unit {0}

fails_first : (l : Outer-F Outer) (outers : List Outer) (s : Source) → IsOther l → first_source l outers ≡ Ok s → ⊥
fails_first (layer.Function function) outers s i h = i
fails_first l outers s i h = not_both refl h

other_fails : {outer : Outer} (l : Outer-F Outer) (outers : List Outer) (s : Source) → roll-Outer l ≡ outer → IsOther l → outers_source (outer ∷ outers) ≡ Ok s → ⊥
other_fails l outers s r i h = fails_first l outers s i (sym (ap (λ x. first_source (out-Outer x) outers) (sym r) ∙ ap (λ x. first_source x outers) (out-roll-Outer l)) ∙ h)

function_deep : (function : Function) → outer_depth (o.Function function) ≡ function_depth function
function_deep function = ap outer_depth (sym (o.rolls-Function function)) ∙ fold-roll-Outer ℕ outer_layer (layer.Function function)

outer_small : {outer : Outer} {span : Span} {ts rest : List Classified} (most : ℕ) → ReadsOuter outer span ts rest → outer_depth outer ≤ most → (outers : List Outer) (s : Source) → outers_source (outer ∷ outers) ≡ Ok s
    → SmallSource most s (length ts) (length rest)
outer_small most (g.using_ p) deep outers s h = absurd (other_fails _ outers s (o.rolls-Using _ _) tt h)
outer_small most (g.namespace i p) deep outers s h = absurd (other_fails _ outers s (o.rolls-Namespace _ _ _) tt h)
outer_small most (g.class_ p) deep outers s h = absurd (other_fails _ outers s (o.rolls-Class _) tt h)
outer_small most (g.enum_ p) deep outers s h = absurd (other_fails _ outers s (o.rolls-Enumeration _) tt h)
outer_small most (g.visible_class v p) deep outers s h = absurd (other_fails _ outers s (o.rolls-VisibleClass _ _ _) tt h)
outer_small most (g.visible_enum v p) deep outers s h = absurd (other_fails _ outers s (o.rolls-VisibleEnumeration _ _ _) tt h)
outer_small most (g.forward p) deep outers s h = absurd (other_fails _ outers s (o.rolls-Forward _ _ _) tt h)
outer_small most (g.template_class p) deep outers s h = absurd (other_fails _ outers s (o.rolls-Template _) tt h)
outer_small most (g.template_function p) deep outers s h = absurd (other_fails _ outers s (o.rolls-Template _) tt h)
outer_small most (g.function_ {function = function} p) deep outers s h =
    function_small most p (let d = function_deep function in omega (arith, deep, d)) outers s (sym (ap (λ x. first_source x outers) (o.outs-Function function)) ∙ h)

-- a straight unit has one declaration
pub two_fail : (l : Outer-F Outer) (two : Outer) (outers : List Outer) (s : Source) → first_source l (two ∷ outers) ≡ Ok s → ⊥
two_fail (layer.Function function) two outers s h = go function.body h
  where
    go : (body : Option Block) → main_source function body (two ∷ outers) ≡ Ok s → ⊥
    go None h = not_both refl h
    go (Some body) h = let parts = main_parts _ _ _ (two ∷ outers) s h in absurd (let e = ap length parts.0 in omega (arith, e))
two_fail l two outers s h = not_both refl h

pub outers_small : {outers : List Outer} {span : Span} {ts rest : List Classified} (most : ℕ) → ReadsOuters outers span ts rest → greatest (map outer_depth outers) ≤ most → (s : Source) → outers_source outers ≡ Ok s
    → SmallSource most s (length ts) (length rest)
outers_small most g.none deep s h = absurd (not_both refl h)
outers_small most (g.last p) deep s h = outer_small most p (omega (arith, deep)) [] s h
outers_small most (g.more {one = one} {two = two} {outers = outers} p q) deep s h = absurd (two_fail (out-Outer one) two outers s h)

pub function_first : (b : Bool) (inner : Judged Source) (of : Span) (s : Source) → (if b then inner else Err of) ≡ Ok s → inner ≡ Ok s
function_first true inner of s h = h
function_first false inner of s h = absurd (not_both refl h)

pub accepted_small : (tokens : List Token) (tree : unit.Unit) → Accepts tokens tree → length tokens ≤ 2 ^ 20 → (s : Source) → IsStraight tree s → IsSmall s
accepted_small tokens tree accepted short s h =
    let within = accepted.within in
    let a = outers_small greatest_height accepted.spells (omega (arith, within)) s (function_first (is_any (map has_function tree.outers)) (outers_source tree.outers) _ s h) in
    let few = a.few in
    let size : length (classify (collected tokens) tokens) ≡ length tokens = length-map tokens (λ token. at (terminal (collected tokens) token.kind) token) in
    record {
      lines_low = a.lines_low;
      result_low = a.result_low;
      short = omega (arith, few, size, short);
    }

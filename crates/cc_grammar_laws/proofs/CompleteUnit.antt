-- Each spelling of a unit leads to it.
use Rattle.std.proofs.Common.{◌≡◌, ◌∙◌, sym, ap, subst, refl, ℕ, List, [], ◌∷◌, ◌++◌, append_assoc}
use Rattle.std.specs.Prelude.{Option, Some, None, Bool, true, false, cond}
use Rattle.cc_base.specs.declared.text.Span.{Span}
use Rattle.cc_tree.specs.declared.token.Token.{Token}
use Rattle.cc_tree.specs.declared.terminal.Terminal.TheVariants as t
use Rattle.cc_tree.specs.declared.terminal.ContextualWord.{ContextualWord}
use Rattle.cc_tree.specs.declared.terminal.ReservedWord.{ReservedWord}
use Rattle.cc_tree.specs.declared.terminal.Sign.{Sign}
use Rattle.cc_tree.specs.declared.terminal.Sign.TheVariants as s
use Rattle.cc_tree.specs.declared.type_name.TypeName.{TypeName}
use Rattle.cc_tree.specs.Spans.{across, identifier}
use Rattle.cc_tree.specs.Terminals.{Classified, at, plain, function}
use Rattle.cc_tree.specs.GrammarTypes as g
use Rattle.cc_tree.specs.GrammarTypes.{ReadsPath, ReadsType, ReadsCore, ReadsNamed, ReadsTypes, ReadsTypeArguments}
use Rattle.cc_table.specs.declared.symbols.Sort.TheVariants as o
use Rattle.cc_table.specs.declared.symbols.Action.TheVariants as a
use Rattle.cc_table.specs.declared.symbols.Input.TheVariants as i
use Rattle.cc_table.specs.declared.symbols.Symbol.{Symbol}
use Rattle.cc_table.specs.declared.symbols.Symbol.TheVariants.{Non, Act}
use Rattle.cc_pushdown.specs.declared.value.Value.{Value}
use Rattle.cc_pushdown.specs.declared.value.Value.TheVariants as v
use Rattle.cc_pushdown.specs.Build.{grown_from}
use Rattle.cc_pushdown.specs.Machine.{fed, At}
use Rattle.cc_grammar_laws.specs.Read.{read, read_value, Passes}
use Rattle.cc_grammar_laws.proofs.Meets.{Meets, same, ahead, then, with_values, pass, LooksAt, look}
use Rattle.cc_grammar_laws.proofs.CompleteTypes.{StartsFundamental, starts_fundamental, StartsName, named_starts}
use Rattle.cc_tree.specs.declared.terminal.NameKind.{NameKind}
use Rattle.cc_tree.specs.declared.token.TokenKind.{TokenKind}
use Rattle.cc_tree.specs.declared.token.TokenKind.TheVariants as number
use Rattle.cc_tree.specs.declared.class.Class.{Class}
use Rattle.cc_tree.specs.declared.class.ClassKey.{ClassKey}
use Rattle.cc_tree.specs.declared.class.Enumeration.{Enumeration}
use Rattle.cc_tree.specs.declared.unit.Outer.{Outer}
use Rattle.std.specs.Prelude.{map}
use Rattle.cc_tree.specs.Terminals.{Names, classify, word_or, sign_or_other, number_terminal, reserved_word, is_outside, name_kind, contextual_word, terminal}
use Rattle.cc_tree.specs.declared.token.Suffix.{Suffix}
use Rattle.cc_tree.specs.declared.token.Suffix.TheVariants as suffix
use Rattle.cc_tree.specs.declared.token.Radix.{Radix}
use Rattle.cc_tree.specs.declared.token.Radix.TheVariants as radix
use Rattle.cc_tree.specs.declared.word.TheConstants.{GRAMMAR_SIGNS}
use Rattle.std.specs.Prelude.{slice_get, zero}
use Rattle.cc_tree.specs.GrammarUnit as u
use Rattle.cc_tree.specs.GrammarUnit.{ReadsKey, ReadsClassModifiers, ReadsBase, ReadsBaseList, ReadsBases, ReadsClass, ReadsEnumerator, ReadsEnumerators, ReadsEnum, ReadsFunction, ReadsTemplateParameters, ReadsTemplate, ReadsNamespace, ReadsOuter, ReadsOuters, Spells}
use Rattle.cc_pushdown.specs.Machine.{feed, value_of, Comes, Done}
use Rattle.cc_pushdown.specs.Values.{top_unit}
use Rattle.cc_grammar_laws.specs.Laws.{UnitsAreRead, OneUnit, RefusesNoFront, RefusesNoUnit}
use Rattle.cc_grammar_laws.proofs.Meets.{comes}
use Rattle.cc_grammar_laws.proofs.Uniqueness.{ends_once, not_both}
use Rattle.cc_grammar_laws.proofs.CompleteClasses.{BehindKey, behind_key, outer_key, visible_key, template_key, class_comes, forward_or_class, enum_comes, template_parameters_come, outer_type, templated_type, function_rest, names_come}
use Rattle.cc_grammar_laws.proofs.CompleteFunctions.{grows_by}

abbrev outer_value : Outer → Span → Value
outer_value one span = v.Outer (record { tree = one; span = span })

abbrev outers_value : List Outer → Span → Value
outers_value items span = v.Outers (record { tree = items; span = span })

split_class : {class : Class} {ts rest : List Classified} → ReadsClass class ts rest → (key : ClassKey) × (us : List Classified) × ReadsKey key ts us × BehindKey key class us rest
split_class (u.class_ {key} {kind} {word} {k} {open_} {close} {semicolon} {us} p q r l) =
    (key, at (t.Name kind word) k ∷ us, p, behind_key {kind = kind} {word = word} {k = k} {open_ = open_} {close = close} {semicolon = semicolon} q r l)

enum_first : {one : Enumeration} {ts rest : List Classified} → ReadsEnum one ts rest → LooksAt o.Outer (Non o.Enumeration ∷ Act a.MakeOuterEnumeration ∷ []) ts × LooksAt o.VisibleRest (Non o.Enumeration ∷ Act a.MakeVisibleEnumeration ∷ []) ts
enum_first (u.enum_ j p) = (refl, refl)

abbrev OuterStarts : List Classified → Type 0
OuterStarts ts = Passes o.Outers ts × LooksAt o.UnitRest (Non o.Outer ∷ Act a.AddOuter ∷ Non o.UnitRest ∷ []) ts

words_start : (ts : List Classified) → StartsFundamental ts → OuterStarts ts
words_start [] h = absurd h
words_start (at (t.Word word) k ∷ us) h = (refl, refl)
words_start (at _ k ∷ us) h = absurd h

names_start : (ts : List Classified) → StartsName ts → OuterStarts ts
names_start [] h = absurd h
names_start (at (t.Name kind word) k ∷ us) h = (refl, refl)
names_start (at _ k ∷ us) h = absurd h

core_starts : {of : TypeName} {span : Span} {ts rest : List Classified} → ReadsCore of span ts rest → OuterStarts ts
core_starts {ts} (g.fundamental p q) = words_start ts (starts_fundamental p q)
core_starts {ts} (g.named p) = names_start ts (named_starts p)

type_starts : {of : TypeName} {span : Span} {ts rest : List Classified} → ReadsType of span ts rest → OuterStarts ts
type_starts (g.core p) = core_starts p
type_starts (g.handle p) = core_starts p
type_starts (g.tracking p) = core_starts p
type_starts (g.handle_tracking p) = core_starts p

outer_starts : {one : Outer} {span : Span} {ts rest : List Classified} → ReadsOuter one span ts rest → OuterStarts ts
outer_starts (u.using_ p) = (refl, refl)
outer_starts (u.namespace j p) = (refl, refl)
outer_starts (u.class_ (u.class_ (u.key j i) q r l)) = (refl, refl)
outer_starts (u.enum_ (u.enum_ j p)) = (refl, refl)
outer_starts (u.visible_class j p) = (refl, refl)
outer_starts (u.visible_enum j p) = (refl, refl)
outer_starts (u.forward (u.key j i)) = (refl, refl)
outer_starts (u.template_class (u.class_ p q)) = (refl, refl)
outer_starts (u.template_function (u.function_ p q)) = (refl, refl)
outer_starts (u.function_ (u.function_ p j q r)) = type_starts p

-- what stands behind the parameters of a template
templated_class : {class : Class} {ts rest : List Classified} → ((key : ClassKey) × (us : List Classified) × ReadsKey key ts us × BehindKey key class us rest) → (more : List Symbol) (vs : List Value)
    → Meets (At (Non o.TemplateRest ∷ more) vs (read ts)) (At (Act a.MakeTemplateClass ∷ Act a.MakeOuterTemplate ∷ more) (v.Class class ∷ vs) (read rest))
templated_class (key, us, p, q) more vs = then (template_key p _ _) (class_comes q _ _)

outer_class : {class : Class} {ts rest : List Classified} → ((key : ClassKey) × (us : List Classified) × ReadsKey key ts us × BehindKey key class us rest) → (more : List Symbol) (vs : List Value)
    → Meets (At (Non o.Outer ∷ more) vs (read ts)) (At (Act a.MakeOuterClass ∷ more) (v.Class class ∷ vs) (read rest))
outer_class (key, us, p, q) more vs = then (outer_key p _ _) (then (forward_or_class q _ _) (class_comes q _ _))

visible_class : {class : Class} {ts rest : List Classified} → ((key : ClassKey) × (us : List Classified) × ReadsKey key ts us × BehindKey key class us rest) → (more : List Symbol) (vs : List Value)
    → Meets (At (Non o.VisibleRest ∷ more) vs (read ts)) (At (Act a.MakeVisibleClass ∷ more) (v.Class class ∷ vs) (read rest))
visible_class (key, us, p, q) more vs = then (visible_key p _ _) (class_comes q _ _)

mutual
  outer_comes : {one : Outer} {span : Span} {ts rest : List Classified} → ReadsOuter one span ts rest → (more : List Symbol) (vs : List Value) → Meets (At (Non o.Outer ∷ more) vs (read ts)) (At more (outer_value one span ∷ vs) (read rest))
  outer_comes (u.using_ (u.last plain)) more vs = ahead (ahead (ahead (ahead (ahead (ahead (ahead same))))))
  outer_comes (u.using_ (u.more {k} plain q)) more vs = ahead (ahead (ahead (ahead (ahead (then (names_come q (identifier k ∷ []) _ _) (ahead (ahead same)))))))
  outer_comes (u.namespace {outers = []} plain u.none) more vs = ahead (ahead (ahead (ahead (ahead (ahead (ahead same))))))
  outer_comes (u.namespace {outers = one ∷ others} plain p) more vs = ahead (ahead (ahead (ahead (then (inner_outers p [] _ _ _) (ahead (ahead same))))))
  outer_comes (u.using_ (u.last function)) more vs = ahead (ahead (ahead (ahead (ahead (ahead (ahead same))))))
  outer_comes (u.using_ (u.more {k} function q)) more vs = ahead (ahead (ahead (ahead (ahead (then (names_come q (identifier k ∷ []) _ _) (ahead (ahead same)))))))
  outer_comes (u.namespace {outers = []} function u.none) more vs = ahead (ahead (ahead (ahead (ahead (ahead (ahead same))))))
  outer_comes (u.namespace {outers = one ∷ others} function p) more vs = ahead (ahead (ahead (ahead (then (inner_outers p [] _ _ _) (ahead (ahead same))))))
  outer_comes (u.class_ p) more vs = then (outer_class (split_class p) more vs) (ahead same)
  outer_comes {ts} (u.enum_ p) more vs = then (look o.Outer (Non o.Enumeration ∷ Act a.MakeOuterEnumeration ∷ []) (λ a b c. refl) ts (enum_first p).0 more vs) (then (enum_comes p _ _) (ahead same))
  outer_comes (u.visible_class u.public p) more vs = ahead (then (visible_class (split_class p) _ _) (ahead same))
  outer_comes (u.visible_enum {ts} u.public p) more vs = ahead (then (look o.VisibleRest (Non o.Enumeration ∷ Act a.MakeVisibleEnumeration ∷ []) (λ a b c. refl) ts (enum_first p).1 _ _) (then (enum_comes p _ _) (ahead same)))
  outer_comes (u.visible_class u.private p) more vs = ahead (then (visible_class (split_class p) _ _) (ahead same))
  outer_comes (u.visible_enum {ts} u.private p) more vs = ahead (then (look o.VisibleRest (Non o.Enumeration ∷ Act a.MakeVisibleEnumeration ∷ []) (λ a b c. refl) ts (enum_first p).1 _ _) (then (enum_comes p _ _) (ahead same)))
  outer_comes (u.forward p) more vs = then (outer_key p _ _) (ahead (ahead (ahead same)))
  outer_comes (u.template_class (u.class_ p q)) more vs = ahead (ahead (ahead (then (template_parameters_come p [] _ _) (ahead (then (templated_class (split_class q) _ _) (ahead (ahead same)))))))
  outer_comes (u.template_function (u.function_ p (u.function_ {k} q j r l))) more vs =
      ahead (ahead (ahead (then (template_parameters_come p [] _ _) (ahead (then (templated_type q j _ _) (then (function_rest k j r l _ _) (ahead (ahead same))))))))
  outer_comes (u.function_ (u.function_ {k} q j r l)) more vs = then (outer_type q j more vs) (then (function_rest k j r l _ _) (ahead same))

  -- those in a namespace
  inner_outers : {one : Outer} {others : List Outer} {span : Span} {close : Token} {ts rest : List Classified} → ReadsOuters (one ∷ others) span ts (at (t.Sign s.CloseBrace) close ∷ rest) → (first : List Outer) (whole : Span) (more : List Symbol) (vs : List Value)
      → Meets (At (Non o.Outers ∷ more) (outers_value first whole ∷ vs) (read ts)) (At more (outers_value (first ++ one ∷ others) (grown_from first whole span) ∷ vs) (read (at (t.Sign s.CloseBrace) close ∷ rest)))
  inner_outers {ts} (u.last p) first whole more vs = then (pass o.Outers (Non o.Outer ∷ Act a.AddOuter ∷ Non o.Outers ∷ []) (λ a b c. refl) refl ts (outer_starts p).0 _ _) (then (outer_comes p _ _) (ahead (ahead same)))
  inner_outers {close} {ts} {rest} (u.more {one} {two} {outers = others} {first = left} {span = right} p q) first whole more vs =
      then (pass o.Outers (Non o.Outer ∷ Act a.AddOuter ∷ Non o.Outers ∷ []) (λ a b c. refl) refl ts (outer_starts p).0 _ _) (then (outer_comes p _ _)
      (ahead (with_values {ts = read (at (t.Sign s.CloseBrace) close ∷ rest)} (ap (λ q. outers_value q (grown_from first whole (across left right)) ∷ vs) (append_assoc first (one ∷ []) (two ∷ others)))
      (with_values {ts = read (at (t.Sign s.CloseBrace) close ∷ rest)} (ap (λ q. outers_value ((first ++ one ∷ []) ++ two ∷ others) q ∷ vs) (grows_by first one whole left right))
      (inner_outers q (first ++ one ∷ []) (grown_from first whole left) more vs)))))

-- those of the whole unit
all_outers : {one : Outer} {others : List Outer} {span : Span} {ts : List Classified} → ReadsOuters (one ∷ others) span ts [] → (first : List Outer) (whole : Span) (more : List Symbol) (vs : List Value)
    → Meets (At (Non o.UnitRest ∷ more) (outers_value first whole ∷ vs) (read ts)) (At more (outers_value (first ++ one ∷ others) (grown_from first whole span) ∷ vs) [])
all_outers {ts} (u.last p) first whole more vs = then (look o.UnitRest (Non o.Outer ∷ Act a.AddOuter ∷ Non o.UnitRest ∷ []) (λ a b c. refl) ts (outer_starts p).1 _ _) (then (outer_comes p _ _) (ahead (ahead same)))
all_outers {ts} (u.more {one} {two} {outers = others} {first = left} {span = right} p q) first whole more vs =
    then (look o.UnitRest (Non o.Outer ∷ Act a.AddOuter ∷ Non o.UnitRest ∷ []) (λ a b c. refl) ts (outer_starts p).1 _ _) (then (outer_comes p _ _)
    (ahead (with_values {ts = []} (ap (λ q. outers_value q (grown_from first whole (across left right)) ∷ vs) (append_assoc first (one ∷ []) (two ∷ others)))
    (with_values {ts = []} (ap (λ q. outers_value ((first ++ one ∷ []) ++ two ∷ others) q ∷ vs) (grows_by first one whole left right))
    (all_outers q (first ++ one ∷ []) (grown_from first whole left) more vs)))))

unit_comes : (items : List Outer) {span : Span} {ts : List Classified} → ReadsOuters items span ts []
    → Meets (At (Act a.StartOuters ∷ Non o.UnitRest ∷ Act a.MakeUnit ∷ []) [] (read ts)) (Done (v.Unit (record { outers = items; span = span }) ∷ []))
unit_comes [] u.none = ahead (ahead (ahead (ahead same)))
unit_comes (one ∷ others) p = ahead (then (all_outers p [] _ _ _) (ahead (ahead same)))

word_value : (q : Option ReservedWord) (b : Bool) (kind : NameKind) (word : ContextualWord) (name : List ℕ) (span : Span)
    → value_of (word_or q (cond b t.Other (t.Name kind word))) (number.Word name) span ≡ read_value (word_or q (cond b t.Other (t.Name kind word))) (number.Word name) span
word_value None true kind word name span = refl
word_value None false kind word name span = refl
word_value (Some one) b kind word name span = refl

numeral_value : (value : ℕ) (s : Suffix) (r : Radix) (span : Span) → value_of (number_terminal value s r) (number.Number value s r) span ≡ read_value (number_terminal value s r) (number.Number value s r) span
numeral_value zero suffix.Plain radix.Octal span = refl
numeral_value _ _ _ span = refl

sign_value : (q : Option Sign) (n : ℕ) (span : Span) → value_of (sign_or_other q) (number.Sign n) span ≡ read_value (sign_or_other q) (number.Sign n) span
sign_value None n span = refl
sign_value (Some sign) n span = refl

same_value : (names : Names) (kind : TokenKind) (span : Span) → value_of (terminal names kind) kind span ≡ read_value (terminal names kind) kind span
same_value names (number.Word word) span = word_value (reserved_word word) (is_outside word) (name_kind names word) (contextual_word word) word span
same_value names (number.Number value s r) span = numeral_value value s r span
same_value names (number.Character c) span = refl
same_value names (number.Literal text) span = refl
same_value names (number.Sign n) span = sign_value (slice_get GRAMMAR_SIGNS n) n span

pub fed_as_read : (names : Names) (tokens : List Token) → map feed (classify names tokens) ≡ read (classify names tokens)
fed_as_read names [] = refl
fed_as_read names (one ∷ tokens) = ap (λ q. fed (i.Token (terminal names one.kind)) q ∷ map feed (classify names tokens)) (same_value names one.kind one.span) ∙ ap (λ q. fed (i.Token (terminal names one.kind)) (read_value (terminal names one.kind) one.kind one.span) ∷ q) (fed_as_read names tokens)

pub units_are_read : UnitsAreRead
units_are_read names tokens tree p = subst (λ q. Comes (At (Act a.StartOuters ∷ Non o.UnitRest ∷ Act a.MakeUnit ∷ []) [] q) (Done (v.Unit tree ∷ []))) (sym (fed_as_read names tokens)) (comes (unit_comes tree.outers p))

pub one_unit : OneUnit
one_unit names tokens a b p q = ap (λ vs. top_unit vs) (ends_once (units_are_read names tokens a p) (units_are_read names tokens b q))

pub refuses_no_front : RefusesNoFront
refuses_no_front names tokens refused (more, tree, p) = not_both (units_are_read names (tokens ++ more) tree p) (refused more).1

pub refuses_no_unit : RefusesNoUnit
refuses_no_unit names tokens tree fs refused p = not_both (units_are_read names tokens tree p) refused

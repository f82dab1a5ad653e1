-- Each spelling of a class, an enumeration, a function and the parameters of a template leads to it.
use Rattle.std.proofs.Common.{sym, ap, refl, List, [], ◌∷◌, ◌++◌, append_assoc, append-nil}
use Rattle.std.specs.Prelude.{Option}
use Rattle.cc_base.specs.declared.text.Span.{Span}
use Rattle.cc_tree.specs.declared.token.Token.{Token}
use Rattle.cc_tree.specs.declared.terminal.Terminal.{Terminal}
use Rattle.cc_tree.specs.declared.terminal.Terminal.TheVariants as t
use Rattle.cc_tree.specs.declared.terminal.NameKind.TheVariants as n
use Rattle.cc_tree.specs.declared.terminal.ContextualWord.{ContextualWord}
use Rattle.cc_tree.specs.declared.terminal.ReservedWord.TheVariants as w
use Rattle.cc_tree.specs.declared.terminal.Sign.TheVariants as s
use Rattle.cc_tree.specs.declared.type_name.TypeName.{TypeName}
use Rattle.cc_tree.specs.declared.identifier.Identifier.{Identifier}
use Rattle.cc_tree.specs.Spans.{across, identifier}
use Rattle.cc_tree.specs.Terminals.{Classified, at, Id, plain, function}
use Rattle.cc_tree.specs.GrammarTypes as g
use Rattle.cc_tree.specs.GrammarTypes.{ReadsPath, ReadsType, ReadsCore, ReadsNamed, ReadsTypes, ReadsTypeArguments}
use Rattle.cc_tree.specs.GrammarExpressions as x
use Rattle.cc_tree.specs.GrammarExpressions.{ReadsStrings, IsNumber, ReadsExpression, ReadsConditional, ReadsBinary, ReadsUnary, ReadsPostfix, ReadsPrimary, ReadsArguments, ReadsExpressions, NoBrace, NoParenthesis, arguments}
use Rattle.cc_table.specs.declared.symbols.Sort.TheVariants as o
use Rattle.cc_table.specs.declared.symbols.Action.TheVariants as a
use Rattle.cc_table.specs.declared.symbols.Symbol.{Symbol}
use Rattle.cc_table.specs.declared.symbols.Symbol.TheVariants.{Non, Act}
use Rattle.cc_pushdown.specs.declared.value.Value.{Value}
use Rattle.cc_pushdown.specs.declared.value.Value.TheVariants as v
use Rattle.cc_pushdown.specs.Machine.{At}
use Rattle.cc_grammar_laws.specs.Read.{read, Passes}
use Rattle.cc_grammar_laws.proofs.Meets.{Meets, same, ahead, behind, then, with_values, pass}
use Rattle.cc_grammar_laws.proofs.CompleteTypes.{StartsFundamental, starts_fundamental, StartsName, named_starts, CoreEnds, named_value, type_value}
use Rattle.cc_grammar_laws.proofs.Starts.{not_true}
use Rattle.cc_tree.specs.declared.terminal.NameKind.{NameKind}
use Rattle.cc_tree.specs.declared.terminal.ContextualWord.TheVariants as c
use Rattle.cc_tree.specs.declared.statement.Block.{Block}
use Rattle.cc_tree.specs.declared.member.Member.{Member}
use Rattle.cc_tree.specs.declared.member.Parameters.{Parameters}
use Rattle.cc_tree.specs.Terminals.{letters}
use Rattle.cc_tree.specs.GrammarMembers.{ReadsParameters, ReadsBody, ReadsMembers}
use Rattle.cc_grammar_laws.proofs.CompleteTypes.{types_comes, core_comes, path_comes, named_comes}
use Rattle.cc_grammar_laws.proofs.CompleteFunctions.{parameters_come, body_comes}
use Rattle.cc_grammar_laws.proofs.CompleteStatements.{id_ends}
use Rattle.cc_tree.specs.declared.class.Class.{Class}
use Rattle.cc_tree.specs.declared.class.ClassKey.{ClassKey}
use Rattle.cc_tree.specs.declared.class.ClassModifier.{ClassModifier}
use Rattle.cc_tree.specs.declared.class.ClassModifier.TheVariants as class_modifier
use Rattle.cc_tree.specs.declared.class.Base.{Base}
use Rattle.cc_tree.specs.declared.class.Enumeration.{Enumeration}
use Rattle.cc_tree.specs.declared.class.Enumerator.{Enumerator}
use Rattle.cc_tree.specs.declared.unit.TemplateParameter.{TemplateParameter}
use Rattle.cc_tree.specs.GrammarUnit as u
use Rattle.cc_tree.specs.GrammarUnit.{ReadsKey, ReadsClassModifiers, ReadsBase, ReadsBaseList, ReadsBases, ReadsClass, ReadsEnumerator, ReadsEnumerators, ReadsEnum, ReadsFunction, ReadsTemplateParameters, ReadsTemplate, ReadsNamespace, ReadsOuter, ReadsOuters}
use Rattle.cc_grammar_laws.proofs.CompleteMembers.{members_come}

abbrev pub key_value : ClassKey → Value
key_value key = v.Key key

pub outer_key : {key : ClassKey} {ts rest : List Classified} → ReadsKey key ts rest → (more : List Symbol) (vs : List Value) → Meets (At (Non o.Outer ∷ more) vs (read ts)) (At (Non o.AnyName ∷ Non o.ForwardOrClass ∷ more) (v.Key key ∷ vs) (read rest))
outer_key (u.key {kind = n.Plain} u.ref u.class_) more vs = ahead (ahead (ahead same))
outer_key (u.key {kind = n.Plain} u.ref u.struct) more vs = ahead (ahead (ahead same))
outer_key (u.key {kind = n.Plain} u.value u.class_) more vs = ahead (ahead (ahead same))
outer_key (u.key {kind = n.Plain} u.value u.struct) more vs = ahead (ahead (ahead same))
outer_key (u.key {kind = n.Plain} u.interface u.class_) more vs = ahead (ahead (ahead same))
outer_key (u.key {kind = n.Plain} u.interface u.struct) more vs = ahead (ahead (ahead same))
outer_key (u.key {kind = n.Function} u.ref u.class_) more vs = ahead (ahead (ahead same))
outer_key (u.key {kind = n.Function} u.ref u.struct) more vs = ahead (ahead (ahead same))
outer_key (u.key {kind = n.Function} u.value u.class_) more vs = ahead (ahead (ahead same))
outer_key (u.key {kind = n.Function} u.value u.struct) more vs = ahead (ahead (ahead same))
outer_key (u.key {kind = n.Function} u.interface u.class_) more vs = ahead (ahead (ahead same))
outer_key (u.key {kind = n.Function} u.interface u.struct) more vs = ahead (ahead (ahead same))
outer_key (u.key {kind = n.Type} u.ref u.class_) more vs = ahead (ahead (ahead same))
outer_key (u.key {kind = n.Type} u.ref u.struct) more vs = ahead (ahead (ahead same))
outer_key (u.key {kind = n.Type} u.value u.class_) more vs = ahead (ahead (ahead same))
outer_key (u.key {kind = n.Type} u.value u.struct) more vs = ahead (ahead (ahead same))
outer_key (u.key {kind = n.Type} u.interface u.class_) more vs = ahead (ahead (ahead same))
outer_key (u.key {kind = n.Type} u.interface u.struct) more vs = ahead (ahead (ahead same))

pub visible_key : {key : ClassKey} {ts rest : List Classified} → ReadsKey key ts rest → (more : List Symbol) (vs : List Value) → Meets (At (Non o.VisibleRest ∷ more) vs (read ts)) (At (Non o.AnyName ∷ Non o.ClassRest ∷ Act a.MakeVisibleClass ∷ more) (v.Key key ∷ vs) (read rest))
visible_key (u.key {kind = n.Plain} u.ref u.class_) more vs = ahead (ahead (ahead same))
visible_key (u.key {kind = n.Plain} u.ref u.struct) more vs = ahead (ahead (ahead same))
visible_key (u.key {kind = n.Plain} u.value u.class_) more vs = ahead (ahead (ahead same))
visible_key (u.key {kind = n.Plain} u.value u.struct) more vs = ahead (ahead (ahead same))
visible_key (u.key {kind = n.Plain} u.interface u.class_) more vs = ahead (ahead (ahead same))
visible_key (u.key {kind = n.Plain} u.interface u.struct) more vs = ahead (ahead (ahead same))
visible_key (u.key {kind = n.Function} u.ref u.class_) more vs = ahead (ahead (ahead same))
visible_key (u.key {kind = n.Function} u.ref u.struct) more vs = ahead (ahead (ahead same))
visible_key (u.key {kind = n.Function} u.value u.class_) more vs = ahead (ahead (ahead same))
visible_key (u.key {kind = n.Function} u.value u.struct) more vs = ahead (ahead (ahead same))
visible_key (u.key {kind = n.Function} u.interface u.class_) more vs = ahead (ahead (ahead same))
visible_key (u.key {kind = n.Function} u.interface u.struct) more vs = ahead (ahead (ahead same))
visible_key (u.key {kind = n.Type} u.ref u.class_) more vs = ahead (ahead (ahead same))
visible_key (u.key {kind = n.Type} u.ref u.struct) more vs = ahead (ahead (ahead same))
visible_key (u.key {kind = n.Type} u.value u.class_) more vs = ahead (ahead (ahead same))
visible_key (u.key {kind = n.Type} u.value u.struct) more vs = ahead (ahead (ahead same))
visible_key (u.key {kind = n.Type} u.interface u.class_) more vs = ahead (ahead (ahead same))
visible_key (u.key {kind = n.Type} u.interface u.struct) more vs = ahead (ahead (ahead same))

pub template_key : {key : ClassKey} {ts rest : List Classified} → ReadsKey key ts rest → (more : List Symbol) (vs : List Value) → Meets (At (Non o.TemplateRest ∷ more) vs (read ts)) (At (Non o.AnyName ∷ Non o.ClassRest ∷ Act a.MakeTemplateClass ∷ Act a.MakeOuterTemplate ∷ more) (v.Key key ∷ vs) (read rest))
template_key (u.key {kind = n.Plain} u.ref u.class_) more vs = ahead (ahead (ahead same))
template_key (u.key {kind = n.Plain} u.ref u.struct) more vs = ahead (ahead (ahead same))
template_key (u.key {kind = n.Plain} u.value u.class_) more vs = ahead (ahead (ahead same))
template_key (u.key {kind = n.Plain} u.value u.struct) more vs = ahead (ahead (ahead same))
template_key (u.key {kind = n.Plain} u.interface u.class_) more vs = ahead (ahead (ahead same))
template_key (u.key {kind = n.Plain} u.interface u.struct) more vs = ahead (ahead (ahead same))
template_key (u.key {kind = n.Function} u.ref u.class_) more vs = ahead (ahead (ahead same))
template_key (u.key {kind = n.Function} u.ref u.struct) more vs = ahead (ahead (ahead same))
template_key (u.key {kind = n.Function} u.value u.class_) more vs = ahead (ahead (ahead same))
template_key (u.key {kind = n.Function} u.value u.struct) more vs = ahead (ahead (ahead same))
template_key (u.key {kind = n.Function} u.interface u.class_) more vs = ahead (ahead (ahead same))
template_key (u.key {kind = n.Function} u.interface u.struct) more vs = ahead (ahead (ahead same))
template_key (u.key {kind = n.Type} u.ref u.class_) more vs = ahead (ahead (ahead same))
template_key (u.key {kind = n.Type} u.ref u.struct) more vs = ahead (ahead (ahead same))
template_key (u.key {kind = n.Type} u.value u.class_) more vs = ahead (ahead (ahead same))
template_key (u.key {kind = n.Type} u.value u.struct) more vs = ahead (ahead (ahead same))
template_key (u.key {kind = n.Type} u.interface u.class_) more vs = ahead (ahead (ahead same))
template_key (u.key {kind = n.Type} u.interface u.struct) more vs = ahead (ahead (ahead same))

class_modifiers_come : {items : List ClassModifier} {ts rest : List Classified} → ReadsClassModifiers items ts rest → Passes o.ClassModifiers rest → (first : List ClassModifier) (more : List Symbol) (vs : List Value)
    → Meets (At (Non o.ClassModifiers ∷ more) (v.ClassModifiers first ∷ vs) (read ts)) (At more (v.ClassModifiers (first ++ items) ∷ vs) (read rest))
class_modifiers_come {rest} u.none h first more vs = with_values {ts = read rest} (ap (λ q. v.ClassModifiers q ∷ vs) (sym (append-nil first))) (pass o.ClassModifiers [] (λ a b c. refl) refl rest h more (v.ClassModifiers first ∷ vs))
class_modifiers_come {rest} (u.abstract {modifiers = others} p) h first more vs = ahead (ahead (with_values {ts = read rest} (ap (λ q. v.ClassModifiers q ∷ vs) (append_assoc first (class_modifier.Abstract ∷ []) others)) (class_modifiers_come p h (first ++ class_modifier.Abstract ∷ []) more vs)))
class_modifiers_come {rest} (u.sealed {modifiers = others} p) h first more vs = ahead (ahead (with_values {ts = read rest} (ap (λ q. v.ClassModifiers q ∷ vs) (append_assoc first (class_modifier.Sealed ∷ []) others)) (class_modifiers_come p h (first ++ class_modifier.Sealed ∷ []) more vs)))

base_passes : (ts : List Classified) → StartsName ts → Passes o.Base ts
base_passes [] h = absurd h
base_passes (at (t.Name kind word) k ∷ rest) h = refl
base_passes (at _ k ∷ rest) h = absurd h

base_comes : {one : Base} {ts rest : List Classified} → ReadsBase one ts rest → Passes o.TemplateArguments rest → (more : List Symbol) (vs : List Value) → Meets (At (Non o.Base ∷ more) vs (read ts)) (At more (v.Base one ∷ vs) (read rest))
base_comes {ts} (u.base p) h more vs = then (pass o.Base (Non o.NamedType ∷ Act a.MakeBase ∷ []) (λ a b c. refl) refl ts (base_passes ts (named_starts p)) _ _) (then (named_comes p h _ _) (ahead same))
base_comes (u.public_base p) h more vs = ahead (then (named_comes p h _ _) (ahead same))

base_list : {items : List Base} {brace : Token} {ts rest : List Classified} → ReadsBaseList items ts (at (t.Sign s.OpenBrace) brace ∷ rest) → (first : List Base) (more : List Symbol) (vs : List Value)
    → Meets (At (Non o.Base ∷ Act a.AddBase ∷ Non o.MoreBases ∷ more) (v.Bases first ∷ vs) (read ts)) (At more (v.Bases (first ++ items) ∷ vs) (read (at (t.Sign s.OpenBrace) brace ∷ rest)))
base_list (u.last p) first more vs = then (base_comes p refl _ _) (ahead (ahead same))
base_list {brace} {rest} (u.more {one} {bases = others} p q) first more vs =
    then (base_comes p refl _ _) (ahead (ahead (with_values {ts = read (at (t.Sign s.OpenBrace) brace ∷ rest)} (ap (λ q. v.Bases q ∷ vs) (append_assoc first (one ∷ []) others)) (base_list q (first ++ one ∷ []) more vs))))

bases_come : {items : List Base} {brace : Token} {ts rest : List Classified} → ReadsBases items ts (at (t.Sign s.OpenBrace) brace ∷ rest) → (more : List Symbol) (vs : List Value)
    → Meets (At (Non o.Bases ∷ more) vs (read ts)) (At more (v.Bases items ∷ vs) (read (at (t.Sign s.OpenBrace) brace ∷ rest)))
bases_come u.none more vs = ahead (ahead same)
bases_come (u.some p) more vs = ahead (ahead (base_list p [] more vs))

bases_start : {items : List Base} {brace : Token} {ts rest : List Classified} → ReadsBases items ts (at (t.Sign s.OpenBrace) brace ∷ rest) → Passes o.ClassModifiers ts × Passes o.ForwardOrClass ts
bases_start u.none = (refl, refl)
bases_start (u.some p) = (refl, refl)

head_starts : {items : List ClassModifier} {ts rest : List Classified} → ReadsClassModifiers items ts rest → Passes o.ForwardOrClass rest → Passes o.ForwardOrClass ts
head_starts u.none h = h
head_starts (u.abstract p) h = refl
head_starts (u.sealed p) h = refl

pub passes_class : (ts : List Classified) → Passes o.ClassRest ts × Passes o.FunctionRest ts
passes_class [] = (tt, tt)
passes_class (at terminal k ∷ ts) = (refl, refl)

abbrev ClassPart : List Symbol
ClassPart = Act a.StartClassModifiers ∷ Non o.ClassModifiers ∷ Non o.Bases ∷ Act a.MakeHead ∷ Non o.OpenBrace ∷ Act a.StartMembers ∷ Non o.Members ∷ Non o.CloseBrace ∷ Non o.KeptSemicolon ∷ Act a.MakeClass ∷ []

-- a class behind its key
pub data BehindKey : ClassKey → Class → List Classified → List Classified → Type 0 where
  behind_key : {key : ClassKey} {kind : NameKind} {word : ContextualWord} {modifiers : List ClassModifier} {bases : List Base} {members : List Member} {k open_ close semicolon : Token} {us vs ws rest : List Classified}
      → ReadsClassModifiers modifiers us vs → ReadsBases bases vs (at (t.Sign s.OpenBrace) open_ ∷ ws)
      → ReadsMembers (letters k.kind) members ws (at (t.Sign s.CloseBrace) close ∷ at (t.Sign s.Semicolon) semicolon ∷ rest)
      → BehindKey key (record { key = key; name = identifier k; modifiers = modifiers; bases = bases; members = members; span = across key.span semicolon.span }) (at (t.Name kind word) k ∷ us) rest

pub class_comes : {key : ClassKey} {class : Class} {ts rest : List Classified} → BehindKey key class ts rest → (more : List Symbol) (vs : List Value)
    → Meets (At (Non o.AnyName ∷ Non o.ClassRest ∷ more) (v.Key key ∷ vs) (read ts)) (At more (v.Class class ∷ vs) (read rest))
class_comes (behind_key {key} {modifiers} {bases} {k} {us} p q r) more vs =
    ahead (then (pass o.ClassRest ClassPart (λ a b c. refl) refl us (passes_class us).0 _ _)
    (ahead (then (class_modifiers_come p (bases_start q).0 [] _ _) (then (bases_come q _ _)
    (ahead (ahead (ahead (then (members_come (record { key = key; name = identifier k; modifiers = modifiers; bases = bases }) r [] _ _) (ahead (ahead (ahead same)))))))))))

pub forward_or_class : {key : ClassKey} {class : Class} {ts rest : List Classified} → BehindKey key class ts rest → (more : List Symbol) (vs : List Value)
    → Meets (At (Non o.AnyName ∷ Non o.ForwardOrClass ∷ more) (v.Key key ∷ vs) (read ts)) (At (Non o.AnyName ∷ Non o.ClassRest ∷ Act a.MakeOuterClass ∷ more) (v.Key key ∷ vs) (read ts))
forward_or_class (behind_key {us} p q r) more vs = ahead (then (pass o.ForwardOrClass (Non o.ClassRest ∷ Act a.MakeOuterClass ∷ []) (λ a b c. refl) refl us (head_starts p (bases_start q).1) _ _) (behind same))

enumerator_comes : {one : Enumerator} {ts rest : List Classified} → ReadsEnumerator one ts rest → Passes o.EnumeratorRest rest → (more : List Symbol) (vs : List Value) → Meets (At (Non o.Enumerator ∷ more) vs (read ts)) (At more (v.Enumerator one ∷ vs) (read rest))
enumerator_comes {rest} (u.alone plain) h more vs = ahead (then (pass o.EnumeratorRest (Act a.MakeEnumerator ∷ []) (λ a b c. refl) refl rest h _ _) (ahead same))
enumerator_comes (u.numbered plain x.number) h more vs = ahead (ahead (ahead (ahead same)))
enumerator_comes (u.negative plain x.number) h more vs = ahead (ahead (ahead (ahead (ahead same))))
enumerator_comes (u.numbered plain x.zero_number) h more vs = ahead (ahead (ahead (ahead same)))
enumerator_comes (u.negative plain x.zero_number) h more vs = ahead (ahead (ahead (ahead (ahead same))))
enumerator_comes {rest} (u.alone function) h more vs = ahead (then (pass o.EnumeratorRest (Act a.MakeEnumerator ∷ []) (λ a b c. refl) refl rest h _ _) (ahead same))
enumerator_comes (u.numbered function x.number) h more vs = ahead (ahead (ahead (ahead same)))
enumerator_comes (u.negative function x.number) h more vs = ahead (ahead (ahead (ahead (ahead same))))
enumerator_comes (u.numbered function x.zero_number) h more vs = ahead (ahead (ahead (ahead same)))
enumerator_comes (u.negative function x.zero_number) h more vs = ahead (ahead (ahead (ahead (ahead same))))

enumerator_first : {one : Enumerator} {ts rest : List Classified} → ReadsEnumerator one ts rest → Passes o.Enumerators ts
enumerator_first (u.alone plain) = refl
enumerator_first (u.numbered plain q) = refl
enumerator_first (u.negative plain q) = refl
enumerator_first (u.alone function) = refl
enumerator_first (u.numbered function q) = refl
enumerator_first (u.negative function q) = refl

enumerators_come : {items : List Enumerator} {close : Token} {ts rest : List Classified} → ReadsEnumerators items ts (at (t.Sign s.CloseBrace) close ∷ rest) → (first : List Enumerator) (more : List Symbol) (vs : List Value)
    → Meets (At (Non o.Enumerators ∷ more) (v.Enumerators first ∷ vs) (read ts)) (At more (v.Enumerators (first ++ items) ∷ vs) (read (at (t.Sign s.CloseBrace) close ∷ rest)))
enumerators_come {close} {rest} u.none first more vs = with_values {ts = read (at (t.Sign s.CloseBrace) close ∷ rest)} (ap (λ q. v.Enumerators q ∷ vs) (sym (append-nil first))) (ahead same)
enumerators_come {ts} (u.last p) first more vs = then (pass o.Enumerators (Non o.Enumerator ∷ Act a.AddEnumerator ∷ Non o.MoreEnumerators ∷ []) (λ a b c. refl) refl ts (enumerator_first p) _ _) (then (enumerator_comes p refl _ _) (ahead (ahead same)))
enumerators_come {close} {ts} {rest} (u.more {one} {items = others} p q) first more vs =
    then (pass o.Enumerators (Non o.Enumerator ∷ Act a.AddEnumerator ∷ Non o.MoreEnumerators ∷ []) (λ a b c. refl) refl ts (enumerator_first p) _ _)
    (then (enumerator_comes p refl _ _) (ahead (ahead (with_values {ts = read (at (t.Sign s.CloseBrace) close ∷ rest)} (ap (λ q. v.Enumerators q ∷ vs) (append_assoc first (one ∷ []) others)) (enumerators_come q (first ++ one ∷ []) more vs)))))

pub enum_comes : {one : Enumeration} {ts rest : List Classified} → ReadsEnum one ts rest → (more : List Symbol) (vs : List Value) → Meets (At (Non o.Enumeration ∷ more) vs (read ts)) (At more (v.Enumeration one ∷ vs) (read rest))
enum_comes (u.enum_ u.class_ p) more vs = ahead (ahead (ahead (ahead (ahead (then (enumerators_come p [] _ _) (ahead (ahead (ahead same))))))))
enum_comes (u.enum_ u.struct p) more vs = ahead (ahead (ahead (ahead (ahead (then (enumerators_come p [] _ _) (ahead (ahead (ahead same))))))))

pub template_parameters_come : {items : List TemplateParameter} {greater : Token} {ts rest : List Classified} → ReadsTemplateParameters items ts (at (t.Sign s.Greater) greater ∷ rest) → (first : List TemplateParameter) (more : List Symbol) (vs : List Value)
    → Meets (At (Non o.TemplateParameter ∷ Act a.AddTemplateParameter ∷ Non o.MoreTemplateParameters ∷ more) (v.TemplateParameters first ∷ vs) (read ts)) (At more (v.TemplateParameters (first ++ items) ∷ vs) (read (at (t.Sign s.Greater) greater ∷ rest)))
template_parameters_come (u.last u.typename) first more vs = ahead (ahead (ahead (ahead (ahead same))))
template_parameters_come {greater} {rest} (u.more {parameters = others} u.typename q) first more vs = ahead (ahead (ahead (ahead (ahead (with_values {ts = read (at (t.Sign s.Greater) greater ∷ rest)} (ap (λ q. v.TemplateParameters q ∷ vs) (append_assoc first (_ ∷ []) others)) (template_parameters_come q (first ++ _ ∷ []) more vs))))))
template_parameters_come (u.last u.class_) first more vs = ahead (ahead (ahead (ahead (ahead same))))
template_parameters_come {greater} {rest} (u.more {parameters = others} u.class_ q) first more vs = ahead (ahead (ahead (ahead (ahead (with_values {ts = read (at (t.Sign s.Greater) greater ∷ rest)} (ap (λ q. v.TemplateParameters q ∷ vs) (append_assoc first (_ ∷ []) others)) (template_parameters_come q (first ++ _ ∷ []) more vs))))))

outer_id : (id : Terminal) (k : Token) (us : List Classified) → Id id → Passes o.KeyOrType (at id k ∷ us)
outer_id _ k us plain = refl
outer_id _ k us function = refl

outer_path : {path : List Identifier} {word : ContextualWord} {k : Token} {ts rest : List Classified} → ReadsPath path ts (at (t.Name n.Type word) k ∷ rest) → Passes o.KeyOrType rest → (more : List Symbol) (vs : List Value)
    → Meets (At (Non o.Outer ∷ more) vs (read ts)) (At (Non o.TemplateArguments ∷ Non o.TypeMarks ∷ Non o.FunctionRest ∷ Act a.MakeOuterFunction ∷ more) (named_value path (identifier k) ∷ vs) (read rest))
outer_path {word = c.Ref} {rest} g.none h more vs = ahead (then (pass o.KeyOrType (Act a.StartPath ∷ Non o.TemplateArguments ∷ Non o.TypeMarks ∷ Non o.FunctionRest ∷ Act a.MakeOuterFunction ∷ []) (λ a b c. refl) refl rest h _ _) (ahead same))
outer_path {word = c.Value} {rest} g.none h more vs = ahead (then (pass o.KeyOrType (Act a.StartPath ∷ Non o.TemplateArguments ∷ Non o.TypeMarks ∷ Non o.FunctionRest ∷ Act a.MakeOuterFunction ∷ []) (λ a b c. refl) refl rest h _ _) (ahead same))
outer_path {word = c.Interface} {rest} g.none h more vs = ahead (then (pass o.KeyOrType (Act a.StartPath ∷ Non o.TemplateArguments ∷ Non o.TypeMarks ∷ Non o.FunctionRest ∷ Act a.MakeOuterFunction ∷ []) (λ a b c. refl) refl rest h _ _) (ahead same))
outer_path {word = _} g.none h more vs = ahead (ahead (ahead (ahead same)))
outer_path (g.next {k = l} (plain {word = c.Ref}) p) h more vs = ahead (ahead (ahead (ahead (path_comes p (identifier l ∷ []) _ vs))))
outer_path (g.next {k = l} (plain {word = c.Value}) p) h more vs = ahead (ahead (ahead (ahead (path_comes p (identifier l ∷ []) _ vs))))
outer_path (g.next {k = l} (plain {word = c.Interface}) p) h more vs = ahead (ahead (ahead (ahead (path_comes p (identifier l ∷ []) _ vs))))
outer_path (g.next {k = l} (plain {word = _}) p) h more vs = ahead (ahead (ahead (ahead (ahead (ahead (path_comes p (identifier l ∷ []) _ vs))))))
outer_path (g.next {k = l} (function {word = c.Ref}) p) h more vs = ahead (ahead (ahead (ahead (path_comes p (identifier l ∷ []) _ vs))))
outer_path (g.next {k = l} (function {word = c.Value}) p) h more vs = ahead (ahead (ahead (ahead (path_comes p (identifier l ∷ []) _ vs))))
outer_path (g.next {k = l} (function {word = c.Interface}) p) h more vs = ahead (ahead (ahead (ahead (path_comes p (identifier l ∷ []) _ vs))))
outer_path (g.next {k = l} (function {word = _}) p) h more vs = ahead (ahead (ahead (ahead (ahead (ahead (path_comes p (identifier l ∷ []) _ vs))))))

outer_word : (ts : List Classified) → StartsFundamental ts → Passes o.Outer ts
outer_word [] h = absurd h
outer_word (at (t.Word w.Void) k ∷ rest) h = refl
outer_word (at (t.Word w.Bool) k ∷ rest) h = refl
outer_word (at (t.Word w.WideChar) k ∷ rest) h = refl
outer_word (at (t.Word w.Signed) k ∷ rest) h = refl
outer_word (at (t.Word w.Unsigned) k ∷ rest) h = refl
outer_word (at (t.Word w.Short) k ∷ rest) h = refl
outer_word (at (t.Word w.Int) k ∷ rest) h = refl
outer_word (at (t.Word w.Long) k ∷ rest) h = refl
outer_word (at (t.Word _) k ∷ rest) h = absurd (not_true h)
outer_word (at _ k ∷ rest) h = absurd h

outer_core : {of : TypeName} {span : Span} {ts rest : List Classified} → ReadsCore of span ts rest → CoreEnds rest → Passes o.KeyOrType rest → (more : List Symbol) (vs : List Value)
    → Meets (At (Non o.Outer ∷ more) vs (read ts)) (At (Non o.TypeMarks ∷ Non o.FunctionRest ∷ Act a.MakeOuterFunction ∷ more) (type_value of span ∷ vs) (read rest))
outer_core {ts} (g.fundamental p q) h j more vs = then (pass o.Outer (Non o.Type ∷ Non o.FunctionRest ∷ Act a.MakeOuterFunction ∷ []) (λ a b c. refl) refl ts (outer_word ts (starts_fundamental p q)) more vs) (core_comes (g.fundamental p q) h _ _)
outer_core {rest} (g.named (g.alone p)) h j more vs = then (outer_path p j more vs) (then (pass o.TemplateArguments (Act a.MakeNamed ∷ []) (λ a b c. refl) refl rest h.2 _ _) (ahead same))
outer_core (g.named (g.applied p q)) h j more vs = then (outer_path p refl more vs) (ahead (ahead (then (types_comes q (refl, refl, refl) refl refl refl [] _ _) (ahead (ahead same)))))

pub outer_type : {of : TypeName} {span : Span} {id : Terminal} {k : Token} {ts us : List Classified} → ReadsType of span ts (at id k ∷ us) → Id id → (more : List Symbol) (vs : List Value)
    → Meets (At (Non o.Outer ∷ more) vs (read ts)) (At (Non o.FunctionRest ∷ Act a.MakeOuterFunction ∷ more) (type_value of span ∷ vs) (read (at id k ∷ us)))
outer_type {id} {k} {us} (g.core p) j more vs = then (outer_core p (id_ends id k us j).0.0 (outer_id id k us j) more vs) (pass o.TypeMarks [] (λ a b c. refl) refl (at id k ∷ us) (id_ends id k us j).0.1 _ _)
outer_type {id} {k} {us} (g.handle p) j more vs = then (outer_core p (refl, refl, refl) refl more vs) (ahead (then (pass o.HandleRest (Act a.MakeHandle ∷ []) (λ a b c. refl) refl (at id k ∷ us) (id_ends id k us j).0.2 _ _) (ahead same)))
outer_type (g.tracking p) j more vs = then (outer_core p (refl, refl, refl) refl more vs) (ahead (ahead same))
outer_type (g.handle_tracking p) j more vs = then (outer_core p (refl, refl, refl) refl more vs) (ahead (ahead (ahead same)))

templated_id : (id : Terminal) (k : Token) (us : List Classified) → Id id → Passes o.TemplateKeyOrType (at id k ∷ us)
templated_id _ k us plain = refl
templated_id _ k us function = refl

templated_path : {path : List Identifier} {word : ContextualWord} {k : Token} {ts rest : List Classified} → ReadsPath path ts (at (t.Name n.Type word) k ∷ rest) → Passes o.TemplateKeyOrType rest → (more : List Symbol) (vs : List Value)
    → Meets (At (Non o.TemplateRest ∷ more) vs (read ts)) (At (Non o.TemplateArguments ∷ Non o.TypeMarks ∷ Non o.FunctionRest ∷ Act a.MakeTemplateFunction ∷ Act a.MakeOuterTemplate ∷ more) (named_value path (identifier k) ∷ vs) (read rest))
templated_path {word = c.Ref} {rest} g.none h more vs = ahead (then (pass o.TemplateKeyOrType (Act a.StartPath ∷ Non o.TemplateArguments ∷ Non o.TypeMarks ∷ Non o.FunctionRest ∷ Act a.MakeTemplateFunction ∷ Act a.MakeOuterTemplate ∷ []) (λ a b c. refl) refl rest h _ _) (ahead same))
templated_path {word = c.Value} {rest} g.none h more vs = ahead (then (pass o.TemplateKeyOrType (Act a.StartPath ∷ Non o.TemplateArguments ∷ Non o.TypeMarks ∷ Non o.FunctionRest ∷ Act a.MakeTemplateFunction ∷ Act a.MakeOuterTemplate ∷ []) (λ a b c. refl) refl rest h _ _) (ahead same))
templated_path {word = c.Interface} {rest} g.none h more vs = ahead (then (pass o.TemplateKeyOrType (Act a.StartPath ∷ Non o.TemplateArguments ∷ Non o.TypeMarks ∷ Non o.FunctionRest ∷ Act a.MakeTemplateFunction ∷ Act a.MakeOuterTemplate ∷ []) (λ a b c. refl) refl rest h _ _) (ahead same))
templated_path {word = _} g.none h more vs = ahead (ahead (ahead (ahead same)))
templated_path (g.next {k = l} (plain {word = c.Ref}) p) h more vs = ahead (ahead (ahead (ahead (path_comes p (identifier l ∷ []) _ vs))))
templated_path (g.next {k = l} (plain {word = c.Value}) p) h more vs = ahead (ahead (ahead (ahead (path_comes p (identifier l ∷ []) _ vs))))
templated_path (g.next {k = l} (plain {word = c.Interface}) p) h more vs = ahead (ahead (ahead (ahead (path_comes p (identifier l ∷ []) _ vs))))
templated_path (g.next {k = l} (plain {word = _}) p) h more vs = ahead (ahead (ahead (ahead (ahead (ahead (path_comes p (identifier l ∷ []) _ vs))))))
templated_path (g.next {k = l} (function {word = c.Ref}) p) h more vs = ahead (ahead (ahead (ahead (path_comes p (identifier l ∷ []) _ vs))))
templated_path (g.next {k = l} (function {word = c.Value}) p) h more vs = ahead (ahead (ahead (ahead (path_comes p (identifier l ∷ []) _ vs))))
templated_path (g.next {k = l} (function {word = c.Interface}) p) h more vs = ahead (ahead (ahead (ahead (path_comes p (identifier l ∷ []) _ vs))))
templated_path (g.next {k = l} (function {word = _}) p) h more vs = ahead (ahead (ahead (ahead (ahead (ahead (path_comes p (identifier l ∷ []) _ vs))))))

templated_word : (ts : List Classified) → StartsFundamental ts → Passes o.TemplateRest ts
templated_word [] h = absurd h
templated_word (at (t.Word w.Void) k ∷ rest) h = refl
templated_word (at (t.Word w.Bool) k ∷ rest) h = refl
templated_word (at (t.Word w.WideChar) k ∷ rest) h = refl
templated_word (at (t.Word w.Signed) k ∷ rest) h = refl
templated_word (at (t.Word w.Unsigned) k ∷ rest) h = refl
templated_word (at (t.Word w.Short) k ∷ rest) h = refl
templated_word (at (t.Word w.Int) k ∷ rest) h = refl
templated_word (at (t.Word w.Long) k ∷ rest) h = refl
templated_word (at (t.Word _) k ∷ rest) h = absurd (not_true h)
templated_word (at _ k ∷ rest) h = absurd h

templated_core : {of : TypeName} {span : Span} {ts rest : List Classified} → ReadsCore of span ts rest → CoreEnds rest → Passes o.TemplateKeyOrType rest → (more : List Symbol) (vs : List Value)
    → Meets (At (Non o.TemplateRest ∷ more) vs (read ts)) (At (Non o.TypeMarks ∷ Non o.FunctionRest ∷ Act a.MakeTemplateFunction ∷ Act a.MakeOuterTemplate ∷ more) (type_value of span ∷ vs) (read rest))
templated_core {ts} (g.fundamental p q) h j more vs = then (pass o.TemplateRest (Non o.Type ∷ Non o.FunctionRest ∷ Act a.MakeTemplateFunction ∷ Act a.MakeOuterTemplate ∷ []) (λ a b c. refl) refl ts (templated_word ts (starts_fundamental p q)) more vs) (core_comes (g.fundamental p q) h _ _)
templated_core {rest} (g.named (g.alone p)) h j more vs = then (templated_path p j more vs) (then (pass o.TemplateArguments (Act a.MakeNamed ∷ []) (λ a b c. refl) refl rest h.2 _ _) (ahead same))
templated_core (g.named (g.applied p q)) h j more vs = then (templated_path p refl more vs) (ahead (ahead (then (types_comes q (refl, refl, refl) refl refl refl [] _ _) (ahead (ahead same)))))

pub templated_type : {of : TypeName} {span : Span} {id : Terminal} {k : Token} {ts us : List Classified} → ReadsType of span ts (at id k ∷ us) → Id id → (more : List Symbol) (vs : List Value)
    → Meets (At (Non o.TemplateRest ∷ more) vs (read ts)) (At (Non o.FunctionRest ∷ Act a.MakeTemplateFunction ∷ Act a.MakeOuterTemplate ∷ more) (type_value of span ∷ vs) (read (at id k ∷ us)))
templated_type {id} {k} {us} (g.core p) j more vs = then (templated_core p (id_ends id k us j).0.0 (templated_id id k us j) more vs) (pass o.TypeMarks [] (λ a b c. refl) refl (at id k ∷ us) (id_ends id k us j).0.1 _ _)
templated_type {id} {k} {us} (g.handle p) j more vs = then (templated_core p (refl, refl, refl) refl more vs) (ahead (then (pass o.HandleRest (Act a.MakeHandle ∷ []) (λ a b c. refl) refl (at id k ∷ us) (id_ends id k us j).0.2 _ _) (ahead same)))
templated_type (g.tracking p) j more vs = then (templated_core p (refl, refl, refl) refl more vs) (ahead (ahead same))
templated_type (g.handle_tracking p) j more vs = then (templated_core p (refl, refl, refl) refl more vs) (ahead (ahead (ahead same)))

-- a function behind its type
pub function_rest : {parameters : Parameters} {body : Option Block} {last : Span} {of : TypeName} {first : Span} {id : Terminal} (k : Token) {us ws rest : List Classified} → Id id → ReadsParameters parameters us ws → ReadsBody body last ws rest → (more : List Symbol) (vs : List Value)
    → Meets (At (Non o.FunctionRest ∷ more) (type_value of first ∷ vs) (read (at id k ∷ us))) (At more (v.Function (record { result = of; name = identifier k; parameters = parameters; body = body; span = across first last }) ∷ vs) (read rest))
function_rest k plain p q more vs = ahead (ahead (then (parameters_come p _ _) (then (body_comes q _ _) (ahead same))))
function_rest k function p q more vs = ahead (ahead (then (parameters_come p _ _) (then (body_comes q _ _) (ahead same))))

pub names_come : {names : List Identifier} {semicolon : Token} {ts rest : List Classified} → ReadsNamespace names ts (at (t.Sign s.Semicolon) semicolon ∷ rest) → (first : List Identifier) (more : List Symbol) (vs : List Value)
    → Meets (At (Non o.Identifier ∷ Act a.AddName ∷ Non o.NamespaceNames ∷ more) (v.Names first ∷ vs) (read ts)) (At more (v.Names (first ++ names) ∷ vs) (read (at (t.Sign s.Semicolon) semicolon ∷ rest)))
names_come (u.last plain) first more vs = ahead (ahead (ahead same))
names_come (u.last function) first more vs = ahead (ahead (ahead same))
names_come {semicolon} {rest} (u.more {path = others} {k} plain q) first more vs = ahead (ahead (ahead (with_values {ts = read (at (t.Sign s.Semicolon) semicolon ∷ rest)} (ap (λ q. v.Names q ∷ vs) (append_assoc first (identifier k ∷ []) others)) (names_come q (first ++ identifier k ∷ []) more vs))))
names_come {semicolon} {rest} (u.more {path = others} {k} function q) first more vs = ahead (ahead (ahead (with_values {ts = read (at (t.Sign s.Semicolon) semicolon ∷ rest)} (ap (λ q. v.Names q ∷ vs) (append_assoc first (identifier k ∷ []) others)) (names_come q (first ++ identifier k ∷ []) more vs))))

-- Each spelling of parameters, bodies, accessors and initialisers leads to it.
use Rattle.std.proofs.Common.{◌≡◌, sym, ap, refl, List, [], ◌∷◌, ◌++◌, append_assoc, append-nil}
use Rattle.std.specs.Prelude.{Option, Some}
use Rattle.cc_base.specs.declared.text.Span.{Span}
use Rattle.cc_tree.specs.declared.token.Token.{Token}
use Rattle.cc_tree.specs.declared.terminal.Terminal.TheVariants as t
use Rattle.cc_tree.specs.declared.terminal.NameKind.TheVariants as n
use Rattle.cc_tree.specs.declared.terminal.ContextualWord.{ContextualWord}
use Rattle.cc_tree.specs.declared.terminal.Sign.TheVariants as s
use Rattle.cc_tree.specs.declared.identifier.Identifier.{Identifier}
use Rattle.cc_tree.specs.Spans.{across, identifier}
use Rattle.cc_tree.specs.Terminals.{Classified, at, plain, function}
use Rattle.cc_tree.specs.GrammarTypes as g
use Rattle.cc_tree.specs.GrammarTypes.{ReadsPath, ReadsType, ReadsCore, ReadsNamed, ReadsTypes, ReadsTypeArguments}
use Rattle.cc_table.specs.declared.symbols.Sort.TheVariants as o
use Rattle.cc_table.specs.declared.symbols.Action.TheVariants as a
use Rattle.cc_table.specs.declared.symbols.Symbol.{Symbol}
use Rattle.cc_table.specs.declared.symbols.Symbol.TheVariants.{Non, Act}
use Rattle.cc_pushdown.specs.declared.value.Value.{Value}
use Rattle.cc_pushdown.specs.declared.value.Value.TheVariants as v
use Rattle.cc_pushdown.specs.Build.{grown_from, list_span_from}
use Rattle.cc_pushdown.specs.Machine.{At}
use Rattle.cc_grammar_laws.specs.Read.{read, Passes}
use Rattle.cc_grammar_laws.proofs.Meets.{Meets, same, ahead, then, with_values, pass}
use Rattle.cc_grammar_laws.proofs.CompleteTypes.{StartsName, named_starts, TypeEnds, type_comes, named_value}
use Rattle.cc_grammar_laws.proofs.Starts.{type_first, Common}
use Rattle.cc_tree.specs.declared.statement.Block.{Block}
use Rattle.cc_tree.specs.GrammarStatements as st
use Rattle.cc_tree.specs.GrammarStatements.{NoElse, NoLabel, ReadsDeclarator, ReadsDeclarators, ReadsLocal, ReadsLabel, ReadsLabels, ReadsForStart, ReadsOptional, ReadsCaught, ReadsBlock, ReadsStatements, ReadsStatement, ReadsCatches, ReadsSections}
use Rattle.cc_grammar_laws.proofs.CompleteExpressions.{arguments_come}
use Rattle.cc_tree.specs.declared.member.Accessor.{Accessor}
use Rattle.cc_tree.specs.declared.member.Parameters.{Parameters}
use Rattle.cc_tree.specs.declared.member.Parameter.{Parameter}
use Rattle.cc_tree.specs.declared.member.Modifier.{Modifier}
use Rattle.cc_tree.specs.declared.member.Overridden.{Overridden}
use Rattle.cc_tree.specs.declared.member.Overridden.TheVariants as over
use Rattle.cc_tree.specs.declared.member.NamedFunction.{NamedFunction}
use Rattle.cc_tree.specs.declared.member.MemberInitializer.{MemberInitializer}
use Rattle.cc_tree.specs.GrammarMembers as y
use Rattle.cc_tree.specs.GrammarMembers.{ReadsParameter, ReadsParameterList, ReadsParameters, IsModifier, ReadsModifiers, IsAccessor, ReadsNamedFunction, ReadsNamedFunctions, ReadsOverridden, ReadsBody, ReadsAccessor, ReadsAccessors, ReadsInitializer, ReadsInitializerList, ReadsInitializers, ReadsIds, ReadsStorage, ReadsPropertyName, ReadsPropertyBody, IsAccess, ReadsMember, ReadsMembers}
use Rattle.cc_grammar_laws.proofs.Starts.{type_facts}
use Rattle.cc_grammar_laws.proofs.CompleteTypes.{path_comes, named_by, named_comes}
use Rattle.cc_grammar_laws.proofs.CompleteStatements.{block_comes}
use Rattle.cc_tree.specs.declared.token.TokenKind.{TokenKind}
use Rattle.cc_tree.specs.declared.token.TokenKind.TheVariants as number
use Rattle.cc_pushdown.specs.Values.{top_number}
use Rattle.cc_grammar_laws.specs.Read.{number_value}

-- the span of a list with one more item, and then some more
pub grows_by : {A : Type 0} (first : List A) (one : A) (whole left right : Span) → grown_from (first ++ one ∷ []) (grown_from first whole left) right ≡ grown_from first whole (across left right)
grows_by [] one whole left right = refl
grows_by (other ∷ first) one whole left right = refl

abbrev parameters_value : List Parameter → Span → Value
parameters_value items span = v.ParameterList (record { tree = items; span = span })

parameter_comes : {one : Parameter} {span : Span} {ts rest : List Classified} → ReadsParameter one span ts rest → TypeEnds rest → Passes o.ParameterName rest → (first : List Parameter) (whole : Span) (more : List Symbol) (vs : List Value)
    → Meets (At (Non o.Type ∷ Non o.ParameterName ∷ more) (parameters_value first whole ∷ vs) (read ts)) (At more (parameters_value (first ++ one ∷ []) (grown_from first whole span) ∷ vs) (read rest))
parameter_comes {rest} (y.unnamed p) h j first whole more vs = then (type_comes p h _ _) (then (pass o.ParameterName (Act a.AddParameter ∷ []) (λ a b c. refl) refl rest j _ _) (ahead same))
parameter_comes (y.named p plain) h j first whole more vs = then (type_comes p ((refl, refl, refl), refl, refl) _ _) (ahead (ahead same))
parameter_comes (y.named p function) h j first whole more vs = then (type_comes p ((refl, refl, refl), refl, refl) _ _) (ahead (ahead same))

list_comes : {items : List Parameter} {span : Span} {close : Token} {ts rest : List Classified} → ReadsParameterList items span ts (at (t.Sign s.CloseParenthesis) close ∷ rest) → (first : List Parameter) (whole : Span) (more : List Symbol) (vs : List Value)
    → Meets (At (Non o.Type ∷ Non o.ParameterName ∷ Non o.MoreParameters ∷ more) (parameters_value first whole ∷ vs) (read ts)) (At more (parameters_value (first ++ items) (grown_from first whole span) ∷ vs) (read (at (t.Sign s.CloseParenthesis) close ∷ rest)))
list_comes (y.last p) first whole more vs = then (parameter_comes p ((refl, refl, refl), refl, refl) refl first whole _ _) (ahead same)
list_comes {close} {rest} (y.more {one} {items = others} {first = left} {span = right} p q) first whole more vs =
    then (parameter_comes p ((refl, refl, refl), refl, refl) refl first whole _ _)
    (ahead (with_values {ts = read (at (t.Sign s.CloseParenthesis) close ∷ rest)} (ap (λ q. parameters_value q (grown_from first whole (across left right)) ∷ vs) (append_assoc first (one ∷ []) others))
    (with_values {ts = read (at (t.Sign s.CloseParenthesis) close ∷ rest)} (ap (λ q. parameters_value ((first ++ one ∷ []) ++ others) q ∷ vs) (grows_by first one whole left right))
    (list_comes q (first ++ one ∷ []) (grown_from first whole left) more vs))))

parameter_first : {one : Parameter} {span : Span} {ts rest : List Classified} → ReadsParameter one span ts rest → Common ts
parameter_first (y.unnamed p) = (type_first p).0
parameter_first (y.named p j) = (type_first p).0

list_first : {items : List Parameter} {span : Span} {ts rest : List Classified} → ReadsParameterList items span ts rest → Common ts
list_first (y.last p) = parameter_first p
list_first (y.more p q) = parameter_first p

list_span_of : {items : List Parameter} {span : Span} {ts rest : List Classified} → ReadsParameterList items span ts rest → (before : Span) → list_span_from items span before ≡ span
list_span_of (y.last p) before = refl
list_span_of (y.more p q) before = refl

abbrev pub ParameterPart : List Symbol → List Symbol
ParameterPart more = Non o.KeptOpenParenthesis ∷ Act a.StartParameters ∷ Non o.Parameters ∷ Act a.MakeParameters ∷ Non o.CloseParenthesis ∷ more

pub parameters_come : {given : Parameters} {ts rest : List Classified} → ReadsParameters given ts rest → (more : List Symbol) (vs : List Value)
    → Meets (At (ParameterPart more) vs (read ts)) (At more (v.Parameters given ∷ vs) (read rest))
parameters_come y.none more vs = ahead (ahead (ahead (ahead (ahead same))))
parameters_come (y.some {items} {span} {open_} {close} {ts} {rest} p) more vs =
    ahead (ahead (then (pass o.Parameters (Non o.Type ∷ Non o.ParameterName ∷ Non o.MoreParameters ∷ []) (λ a b c. refl) refl ts (list_first p).9 _ _)
    (then (list_comes p [] _ _ _) (ahead (ahead (with_values {ts = read rest} (ap (λ q. v.Parameters (record { items = items; span = q }) ∷ vs) (list_span_of p open_.span)) same))))))

modifiers_come : {items : List Modifier} {ts rest : List Classified} → ReadsModifiers items ts rest → Passes o.Modifiers rest → (first : List Modifier) (more : List Symbol) (vs : List Value)
    → Meets (At (Non o.Modifiers ∷ more) (v.Modifiers first ∷ vs) (read ts)) (At more (v.Modifiers (first ++ items) ∷ vs) (read rest))
modifiers_come {rest} y.none h first more vs = with_values {ts = read rest} (ap (λ q. v.Modifiers q ∷ vs) (sym (append-nil first))) (pass o.Modifiers [] (λ a b c. refl) refl rest h more (v.Modifiers first ∷ vs))
modifiers_come {rest} (y.next {one} {modifiers = others} y.abstract p) h first more vs = ahead (ahead (with_values {ts = read rest} (ap (λ q. v.Modifiers q ∷ vs) (append_assoc first (one ∷ []) others)) (modifiers_come p h (first ++ one ∷ []) more vs)))
modifiers_come {rest} (y.next {one} {modifiers = others} y.override p) h first more vs = ahead (ahead (with_values {ts = read rest} (ap (λ q. v.Modifiers q ∷ vs) (append_assoc first (one ∷ []) others)) (modifiers_come p h (first ++ one ∷ []) more vs)))
modifiers_come {rest} (y.next {one} {modifiers = others} y.sealed p) h first more vs = ahead (ahead (with_values {ts = read rest} (ap (λ q. v.Modifiers q ∷ vs) (append_assoc first (one ∷ []) others)) (modifiers_come p h (first ++ one ∷ []) more vs)))
modifiers_come {rest} (y.next {one} {modifiers = others} y.new p) h first more vs = ahead (ahead (with_values {ts = read rest} (ap (λ q. v.Modifiers q ∷ vs) (append_assoc first (one ∷ []) others)) (modifiers_come p h (first ++ one ∷ []) more vs)))

-- what may follow the functions that one overrides
abbrev pub BodyStarts : List Classified → Type 0
BodyStarts ts = Passes o.Modifiers ts × Passes o.Overriding ts × Passes o.NamedAccessor ts × Passes o.MoreNamedFunctions ts × Passes o.Initializers ts × Passes o.MoreInitializers ts

named_function_comes : {one : NamedFunction} {ts rest : List Classified} → ReadsNamedFunction one ts rest → Passes o.NamedAccessor rest → (more : List Symbol) (vs : List Value)
    → Meets (At (Non o.NamedType ∷ Non o.Scope ∷ Non o.Identifier ∷ Non o.NamedAccessor ∷ more) vs (read ts)) (At more (v.NamedFunction one ∷ vs) (read rest))
named_function_comes {rest} (y.function p plain) h more vs = then (named_comes p refl _ _) (ahead (ahead (then (pass o.NamedAccessor (Act a.MakeNamedFunction ∷ []) (λ a b c. refl) refl rest h _ _) (ahead same))))
named_function_comes {rest} (y.function p function) h more vs = then (named_comes p refl _ _) (ahead (ahead (then (pass o.NamedAccessor (Act a.MakeNamedFunction ∷ []) (λ a b c. refl) refl rest h _ _) (ahead same))))
named_function_comes (y.accessor p plain y.get) h more vs = then (named_comes p refl _ _) (ahead (ahead (ahead (ahead (ahead same)))))
named_function_comes (y.accessor p plain y.set) h more vs = then (named_comes p refl _ _) (ahead (ahead (ahead (ahead (ahead same)))))
named_function_comes (y.accessor p function y.get) h more vs = then (named_comes p refl _ _) (ahead (ahead (ahead (ahead (ahead same)))))
named_function_comes (y.accessor p function y.set) h more vs = then (named_comes p refl _ _) (ahead (ahead (ahead (ahead (ahead same)))))

name_passes : (ts : List Classified) → StartsName ts → Passes o.Overridden ts × Passes o.NamedFunction ts
name_passes [] h = absurd h
name_passes (at (t.Name kind word) k ∷ rest) h = (refl, refl)
name_passes (at _ k ∷ rest) h = absurd h

function_first : {one : NamedFunction} {ts rest : List Classified} → ReadsNamedFunction one ts rest → Passes o.Overridden ts × Passes o.NamedFunction ts
function_first {ts} (y.function p j) = name_passes ts (named_starts p)
function_first {ts} (y.accessor p j l) = name_passes ts (named_starts p)

functions_first : {items : List NamedFunction} {span : Span} {ts rest : List Classified} → ReadsNamedFunctions items span ts rest → Passes o.Overridden ts × Passes o.NamedFunction ts
functions_first (y.last p) = function_first p
functions_first (y.more p q) = function_first p

abbrev functions_value : List NamedFunction → Span → Value
functions_value items span = v.NamedFunctions (record { tree = items; span = span })

functions_come : {items : List NamedFunction} {span : Span} {ts rest : List Classified} → ReadsNamedFunctions items span ts rest → BodyStarts rest → (first : List NamedFunction) (whole : Span) (more : List Symbol) (vs : List Value)
    → Meets (At (Non o.NamedFunction ∷ Act a.AddNamedFunction ∷ Non o.MoreNamedFunctions ∷ more) (functions_value first whole ∷ vs) (read ts)) (At more (functions_value (first ++ items) (grown_from first whole span) ∷ vs) (read rest))
functions_come {ts} {rest} (y.last p) h first whole more vs =
    then (pass o.NamedFunction (Non o.NamedType ∷ Non o.Scope ∷ Non o.Identifier ∷ Non o.NamedAccessor ∷ []) (λ a b c. refl) refl ts (function_first p).1 _ _)
    (then (named_function_comes p h.2 _ _) (ahead (pass o.MoreNamedFunctions [] (λ a b c. refl) refl rest h.3 _ _)))
functions_come {ts} {rest} (y.more {one} {functions = others} {span = right} p q) h first whole more vs =
    then (pass o.NamedFunction (Non o.NamedType ∷ Non o.Scope ∷ Non o.Identifier ∷ Non o.NamedAccessor ∷ []) (λ a b c. refl) refl ts (function_first p).1 _ _)
    (then (named_function_comes p refl _ _)
    (ahead (ahead (with_values {ts = read rest} (ap (λ q. functions_value q (grown_from first whole (across one.span right)) ∷ vs) (append_assoc first (one ∷ []) others))
    (with_values {ts = read rest} (ap (λ q. functions_value ((first ++ one ∷ []) ++ others) q ∷ vs) (grows_by first one whole one.span right))
    (functions_come q h (first ++ one ∷ []) (grown_from first whole one.span) more vs))))))

zero_span : (kind : TokenKind) (span : Span) (vs : List Value) → (top_number (number_value kind span ∷ vs)).span ≡ span
zero_span (number.Number value suffix radix) span vs = refl
zero_span _ span vs = refl

overridden_comes : {one : Option Overridden} {ts rest : List Classified} → ReadsOverridden one ts rest → BodyStarts rest → (more : List Symbol) (vs : List Value)
    → Meets (At (Non o.Overriding ∷ more) vs (read ts)) (At more (v.Overridden one ∷ vs) (read rest))
overridden_comes {rest} y.none h more vs = then (pass o.Overriding (Act a.NotOverridden ∷ []) (λ a b c. refl) refl rest h.1 _ _) (ahead same)
overridden_comes {rest} (y.pure {k}) h more vs = ahead (ahead (ahead (with_values {ts = read rest} (ap (λ q. v.Overridden (Some (over.Pure q)) ∷ vs) (zero_span k.kind k.span vs)) same)))
overridden_comes (y.functions {ts} p) h more vs =
    ahead (then (pass o.Overridden (Act a.StartNamedFunctions ∷ Non o.NamedFunction ∷ Act a.AddNamedFunction ∷ Non o.MoreNamedFunctions ∷ Act a.MakeOverridden ∷ []) (λ a b c. refl) refl ts (functions_first p).0 _ _)
    (ahead (then (functions_come p h [] _ _ _) (ahead same))))

pub body_starts : {one : Option Block} {span : Span} {ts rest : List Classified} → ReadsBody one span ts rest → BodyStarts ts
body_starts y.none = (refl, refl, refl, refl, refl, refl)
body_starts (y.some (st.block_ p)) = (refl, refl, refl, refl, refl, refl)

overridden_starts : {one : Option Overridden} {ts rest : List Classified} → ReadsOverridden one ts rest → BodyStarts rest → Passes o.Modifiers ts
overridden_starts y.none h = h.0
overridden_starts y.pure h = refl
overridden_starts (y.functions p) h = refl

block_body : {one : Block} {span : Span} {ts rest : List Classified} → ReadsBlock one span ts rest → (more : List Symbol) (vs : List Value)
    → Meets (At (Non o.Body ∷ more) vs (read ts)) (At (Non o.Block ∷ Act a.SomeBody ∷ more) vs (read ts))
block_body (st.block_ p) more vs = ahead same

abbrev pub body_value : Option Block → Span → Value
body_value one span = v.Body (record { tree = one; span = span })

pub body_comes : {one : Option Block} {span : Span} {ts rest : List Classified} → ReadsBody one span ts rest → (more : List Symbol) (vs : List Value)
    → Meets (At (Non o.Body ∷ more) vs (read ts)) (At more (body_value one span ∷ vs) (read rest))
body_comes y.none more vs = ahead (ahead same)
body_comes (y.some p) more vs = then (block_body p more vs) (then (block_comes p _ _) (ahead same))

-- what stands behind the parameters of a member's function
pub tail_comes : {modifiers : List Modifier} {overridden : Option Overridden} {body : Option Block} {last : Span} {ts us ws rest : List Classified} → ReadsModifiers modifiers ts us → ReadsOverridden overridden us ws → ReadsBody body last ws rest
    → (more : List Symbol) (vs : List Value)
    → Meets (At (Act a.StartModifiers ∷ Non o.Modifiers ∷ Non o.Overriding ∷ Non o.Body ∷ more) vs (read ts)) (At more (body_value body last ∷ v.Overridden overridden ∷ v.Modifiers modifiers ∷ vs) (read rest))
tail_comes p q r more vs = ahead (then (modifiers_come p (overridden_starts q (body_starts r)) [] _ _) (then (overridden_comes q (body_starts r) _ _) (body_comes r _ _)))

pub accessor_comes : {one : Accessor} {ts rest : List Classified} → ReadsAccessor one ts rest → (more : List Symbol) (vs : List Value) → Meets (At (Non o.Accessor ∷ more) vs (read ts)) (At more (v.Accessor one ∷ vs) (read rest))
accessor_comes {ts} (y.accessor_ p y.get q r z w) more vs =
    then (pass o.Accessor (Act a.NoStorage ∷ Non o.Type ∷ Non o.AccessorWord ∷ ParameterPart (Act a.StartModifiers ∷ Non o.Modifiers ∷ Non o.Overriding ∷ Non o.Body ∷ Act a.MakeAccessor ∷ [])) (λ a b c. refl) refl ts (type_facts p).0 _ _)
    (ahead (then (type_comes p ((refl, refl, refl), refl, refl) _ _) (ahead (then (parameters_come q _ _) (then (tail_comes r z w _ _) (ahead same))))))
accessor_comes {ts} (y.accessor_ p y.set q r z w) more vs =
    then (pass o.Accessor (Act a.NoStorage ∷ Non o.Type ∷ Non o.AccessorWord ∷ ParameterPart (Act a.StartModifiers ∷ Non o.Modifiers ∷ Non o.Overriding ∷ Non o.Body ∷ Act a.MakeAccessor ∷ [])) (λ a b c. refl) refl ts (type_facts p).0 _ _)
    (ahead (then (type_comes p ((refl, refl, refl), refl, refl) _ _) (ahead (then (parameters_come q _ _) (then (tail_comes r z w _ _) (ahead same))))))
accessor_comes (y.virtual p y.get q r z w) more vs = ahead (then (type_comes p ((refl, refl, refl), refl, refl) _ _) (ahead (then (parameters_come q _ _) (then (tail_comes r z w _ _) (ahead same)))))
accessor_comes (y.virtual p y.set q r z w) more vs = ahead (then (type_comes p ((refl, refl, refl), refl, refl) _ _) (ahead (then (parameters_come q _ _) (then (tail_comes r z w _ _) (ahead same)))))

accessor_first : {one : Accessor} {ts rest : List Classified} → ReadsAccessor one ts rest → Passes o.Accessors ts
accessor_first (y.accessor_ p j q r z w) = (type_facts p).1
accessor_first (y.virtual p j q r z w) = refl

pub accessors_come : {items : List Accessor} {close : Token} {ts rest : List Classified} → ReadsAccessors items ts (at (t.Sign s.CloseBrace) close ∷ rest) → (first : List Accessor) (more : List Symbol) (vs : List Value)
    → Meets (At (Non o.Accessors ∷ more) (v.Accessors first ∷ vs) (read ts)) (At more (v.Accessors (first ++ items) ∷ vs) (read (at (t.Sign s.CloseBrace) close ∷ rest)))
accessors_come {close} {rest} y.none first more vs = with_values {ts = read (at (t.Sign s.CloseBrace) close ∷ rest)} (ap (λ q. v.Accessors q ∷ vs) (sym (append-nil first))) (ahead same)
accessors_come {close} {ts} {rest} (y.next {one} {accessors = others} p q) first more vs =
    then (pass o.Accessors (Non o.Accessor ∷ Act a.AddAccessor ∷ Non o.Accessors ∷ []) (λ a b c. refl) refl ts (accessor_first p) _ _)
    (then (accessor_comes p _ _) (ahead (with_values {ts = read (at (t.Sign s.CloseBrace) close ∷ rest)} (ap (λ q. v.Accessors q ∷ vs) (append_assoc first (one ∷ []) others)) (accessors_come q (first ++ one ∷ []) more vs))))

-- a base before its arguments
base_path : {path : List Identifier} {word : ContextualWord} {k : Token} {ts rest : List Classified} → ReadsPath path ts (at (t.Name n.Type word) k ∷ rest) → (more : List Symbol) (vs : List Value)
    → Meets (At (Non o.Initializer ∷ more) vs (read ts)) (At (Non o.TemplateArguments ∷ Non o.KeptOpenParenthesis ∷ Act a.StartExpressions ∷ Non o.Arguments ∷ Act a.MakeArguments ∷ Non o.KeptCloseParenthesis ∷ Act a.MakeBaseInitializer ∷ more) (named_value path (identifier k) ∷ vs) (read rest))
base_path g.none more vs = ahead (ahead same)
base_path (g.next {k = l} plain p) more vs = ahead (ahead (ahead (ahead (path_comes p (identifier l ∷ []) _ vs))))
base_path (g.next {k = l} function p) more vs = ahead (ahead (ahead (ahead (path_comes p (identifier l ∷ []) _ vs))))

initializer_comes : {one : MemberInitializer} {ts rest : List Classified} → ReadsInitializer one ts rest → (more : List Symbol) (vs : List Value) → Meets (At (Non o.Initializer ∷ more) vs (read ts)) (At more (v.Initializer one ∷ vs) (read rest))
initializer_comes (y.member plain p) more vs = ahead (ahead (then (arguments_come (t.Sign s.OpenParenthesis) p (((((refl, refl, refl), refl), refl), (λ l. refl), refl, tt), refl, refl) _ _) (ahead (ahead same))))
initializer_comes (y.member function p) more vs = ahead (ahead (then (arguments_come (t.Sign s.OpenParenthesis) p (((((refl, refl, refl), refl), refl), (λ l. refl), refl, tt), refl, refl) _ _) (ahead (ahead same))))
initializer_comes {ts} (y.base p q) more vs =
    then (named_by (Non o.Initializer ∷ more) (Non o.KeptOpenParenthesis ∷ Act a.StartExpressions ∷ Non o.Arguments ∷ Act a.MakeArguments ∷ Non o.KeptCloseParenthesis ∷ Act a.MakeBaseInitializer ∷ more) vs ts (λ path word k rest p. base_path p more vs) p refl)
    (ahead (then (arguments_come (t.Sign s.OpenParenthesis) q (((((refl, refl, refl), refl), refl), (λ l. refl), refl, tt), refl, refl) _ _) (ahead (ahead same))))

initializer_list : {items : List MemberInitializer} {ts rest : List Classified} → ReadsInitializerList items ts rest → Passes o.MoreInitializers rest → (first : List MemberInitializer) (more : List Symbol) (vs : List Value)
    → Meets (At (Non o.Initializer ∷ Act a.AddInitializer ∷ Non o.MoreInitializers ∷ more) (v.Initializers first ∷ vs) (read ts)) (At more (v.Initializers (first ++ items) ∷ vs) (read rest))
initializer_list {rest} (y.last p) h first more vs = then (initializer_comes p _ _) (ahead (pass o.MoreInitializers [] (λ a b c. refl) refl rest h _ _))
initializer_list {rest} (y.more {one} {initializers = others} p q) h first more vs =
    then (initializer_comes p _ _) (ahead (ahead (with_values {ts = read rest} (ap (λ q. v.Initializers q ∷ vs) (append_assoc first (one ∷ []) others)) (initializer_list q h (first ++ one ∷ []) more vs))))

pub initializers_come : {items : List MemberInitializer} {ts rest : List Classified} → ReadsInitializers items ts rest → Passes o.Initializers rest → Passes o.MoreInitializers rest → (more : List Symbol) (vs : List Value)
    → Meets (At (Non o.Initializers ∷ more) vs (read ts)) (At more (v.Initializers items ∷ vs) (read rest))
initializers_come {rest} y.none h j more vs = then (pass o.Initializers (Act a.StartInitializers ∷ []) (λ a b c. refl) refl rest h _ _) (ahead same)
initializers_come (y.some p) h j more vs = ahead (ahead (initializer_list p j [] more vs))

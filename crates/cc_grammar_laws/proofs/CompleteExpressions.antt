-- Each spelling of an expression leads to it.
use Rattle.std.proofs.Common.{◌≡◌, sym, ap, refl, ℕ, List, [], ◌∷◌, ◌++◌, append_assoc, append-nil, ◌≤◌, ◌+◌, arith}
use Rattle.std.specs.Prelude.{Option, Some, None, unwrap_or}
use Rattle.cc_base.specs.declared.text.Span.{Span}
use Rattle.cc_tree.specs.declared.token.Token.{Token}
use Rattle.cc_tree.specs.declared.terminal.Terminal.{Terminal}
use Rattle.cc_tree.specs.declared.terminal.Terminal.TheVariants as t
use Rattle.cc_tree.specs.declared.terminal.NameKind.TheVariants as n
use Rattle.cc_tree.specs.declared.terminal.ContextualWord.{ContextualWord}
use Rattle.cc_tree.specs.declared.terminal.ReservedWord.{ReservedWord}
use Rattle.cc_tree.specs.declared.terminal.ReservedWord.TheVariants as w
use Rattle.cc_tree.specs.declared.terminal.Sign.{Sign}
use Rattle.cc_tree.specs.declared.terminal.Sign.TheVariants as s
use Rattle.cc_tree.specs.declared.type_name.TypeName.{TypeName}
use Rattle.cc_tree.specs.declared.identifier.Identifier.{Identifier}
use Rattle.cc_tree.specs.declared.expression.Expression.{Expression}
use Rattle.cc_tree.specs.declared.expression.Expression.TheVariants as tree
use Rattle.cc_tree.specs.declared.expression.Arguments.{Arguments}
use Rattle.cc_tree.specs.declared.expression.AssignmentOperator.TheVariants as assigns
use Rattle.cc_tree.specs.declared.expression.PrefixOperator.TheVariants as prefixes
use Rattle.cc_tree.specs.declared.expression.PostfixOperator.TheVariants as postfixes
use Rattle.cc_tree.specs.declared.expression.Selector.TheVariants as selects_by
use Rattle.cc_tree.specs.declared.expression.CastWord.TheVariants as casts_by
use Rattle.cc_tree.specs.declared.expression.PrefixOperator.{PrefixOperator}
use Rattle.cc_tree.specs.declared.expression.PostfixOperator.{PostfixOperator}
use Rattle.cc_tree.specs.declared.expression.AssignmentOperator.{AssignmentOperator}
use Rattle.cc_tree.specs.declared.expression.Selector.{Selector}
use Rattle.cc_tree.specs.declared.expression.CastWord.{CastWord}
use Rattle.cc_tree.specs.Spans.{across, identifier}
use Rattle.cc_tree.specs.Terminals.{Classified, at, Id, plain, function}
use Rattle.cc_tree.specs.Operators.{assignment_operator, prefix_operator, postfix_operator, selector, cast_word, level}
use Rattle.cc_tree.specs.GrammarTypes as g
use Rattle.cc_tree.specs.GrammarTypes.{ReadsPath, ReadsType, ReadsCore, ReadsNamed, ReadsTypes, ReadsTypeArguments}
use Rattle.cc_tree.specs.GrammarExpressions as x
use Rattle.cc_tree.specs.GrammarExpressions.{ReadsStrings, IsNumber, ReadsExpression, ReadsConditional, ReadsBinary, ReadsUnary, ReadsPostfix, ReadsPrimary, ReadsArguments, ReadsExpressions, NoBrace, NoParenthesis, arguments}
use Rattle.cc_table.specs.declared.symbols.Sort.TheVariants as o
use Rattle.cc_table.specs.declared.symbols.Action.TheVariants as a
use Rattle.cc_table.specs.declared.symbols.Input.{Input}
use Rattle.cc_table.specs.declared.symbols.Input.TheVariants as i
use Rattle.cc_table.specs.declared.symbols.Symbol.{Symbol}
use Rattle.cc_table.specs.declared.symbols.Symbol.TheVariants.{Non, Act}
use Rattle.cc_pushdown.specs.declared.value.Value.{Value}
use Rattle.cc_pushdown.specs.declared.value.Value.TheVariants as v
use Rattle.cc_pushdown.specs.Build.{grown_from, list_span_from}
use Rattle.cc_pushdown.specs.Words.{assignment_of, prefix_of, postfix_of, selector_of, cast_of}
use Rattle.cc_pushdown.specs.Machine.{Fed, fed, At, begins, keeps}
use Rattle.cc_grammar_laws.specs.Read.{read, Passes}
use Rattle.cc_grammar_laws.proofs.Meets.{Meets, same, ahead, behind, then, turn, with_values, pass, pass_fed, fed_passes, FedPasses, LooksAt, look, put_fed}
use Rattle.cc_grammar_laws.proofs.CompleteTypes.{StartsName, type_comes, named_value, type_value}
use Rattle.cc_grammar_laws.proofs.Heads.{IsOperand, plain_name, function_name, operand_type, plain_heads, function_heads, operand_heads, type_taken, types_taken}
use Rattle.cc_grammar_laws.proofs.Starts.{name_first, core_first, type_first, PrimaryEnds, UnaryEnds, ends_assignment, ends_operator, starts_binary, starts_expression, common, IsNothing, not_some, TypeFirst, Starts, token, operand, OperandEnds}
use Rattle.cc_grammar_laws.proofs.BetweenOperands.{less_at, less_value, Tolerates, tolerates_nothing, tolerates_act, tolerates_pass, operand_read, expression_unary, operand_expression, less_back, operator_folds, takes_operator, operator_tolerates, Ends, operator_ends, ends_grow, tolerates_level, LessLevel}

abbrev pub expression_value : Expression → Span → Value
expression_value one span = v.Expression (record { tree = one; span = span })

abbrev mark : Terminal → Span → Value
mark terminal span = v.Mark (record { terminal = terminal; span = span })

-- what may follow an expression, so that it ends there
abbrev pub ExpressionEnds : List Classified → Type 0
ExpressionEnds rest = OperandEnds rest × ((l : ℕ) → Passes (o.BinaryRest l) rest) × Passes o.ConditionalRest rest × IsNothing (Token × List Classified) (less_at rest)

-- what may follow a list of arguments
abbrev pub ArgumentsEnd : List Classified → Type 0
ArgumentsEnd rest = ExpressionEnds rest × Passes o.MoreExpressions rest × LooksAt o.Arguments [] rest

-- Each operator is the one that its sign is made into.
assignment_agrees : (sign : Sign) (operator : AssignmentOperator) → assignment_operator sign ≡ Some operator → assignment_of (t.Sign sign) ≡ operator
assignment_agrees s.Assign operator h = ap (λ q. unwrap_or q assigns.Assign) h
assignment_agrees _ operator h = ap (λ q. unwrap_or q assigns.Assign) h

prefix_agrees : (sign : Sign) (operator : PrefixOperator) → prefix_operator sign ≡ Some operator → prefix_of (t.Sign sign) ≡ operator
prefix_agrees s.Exclamation operator h = ap (λ q. unwrap_or q prefixes.Not) h
prefix_agrees _ operator h = ap (λ q. unwrap_or q prefixes.Not) h

postfix_agrees : (sign : Sign) (operator : PostfixOperator) → postfix_operator sign ≡ Some operator → postfix_of (t.Sign sign) ≡ operator
postfix_agrees s.Decrement operator h = ap (λ q. unwrap_or q postfixes.Decrement) h
postfix_agrees _ operator h = ap (λ q. unwrap_or q postfixes.Decrement) h

selector_agrees : (sign : Sign) (selects : Selector) → selector sign ≡ Some selects → selector_of (t.Sign sign) ≡ selects
selector_agrees s.Arrow selects h = ap (λ q. unwrap_or q selects_by.Arrow) h
selector_agrees _ selects h = ap (λ q. unwrap_or q selects_by.Arrow) h

cast_agrees : (word : ReservedWord) (casts : CastWord) → cast_word word ≡ Some casts → cast_of (t.Word word) ≡ casts
cast_agrees w.DynamicCast casts h = ap (λ q. unwrap_or q casts_by.Dynamic) h
cast_agrees _ casts h = ap (λ q. unwrap_or q casts_by.Dynamic) h

abbrev SelectorPart : List Symbol
SelectorPart = Non o.Selected ∷ Non o.SuffixRest ∷ []

selector_row : (sign : Sign) (selects : Selector) → selector sign ≡ Some selects → begins o.SuffixRest (i.Token (t.Sign sign)) ≡ Some (keeps SelectorPart)
selector_row s.Dot selects h = refl
selector_row s.Arrow selects h = refl
selector_row _ selects h = absurd (not_some h)

selector_tolerates : (sign : Sign) (selects : Selector) (k : Token) (us : List Classified) (more : List Symbol) → selector sign ≡ Some selects → Tolerates more (less_at (at (t.Sign sign) k ∷ us))
selector_tolerates s.Less selects k us more h = absurd (not_some h)
selector_tolerates _ selects k us more h = tt

selector_ends : (sign : Sign) (selects : Selector) (k : Token) (us : List Classified) → selector sign ≡ Some selects → PrimaryEnds (at (t.Sign sign) k ∷ us)
selector_ends s.Dot selects k us h = (refl, refl, refl)
selector_ends s.Arrow selects k us h = (refl, refl, refl)
selector_ends _ selects k us h = absurd (not_some h)

abbrev StepPart : List Symbol
StepPart = Act a.MakePostfix ∷ Non o.SuffixRest ∷ []

step_row : (sign : Sign) (operator : PostfixOperator) → postfix_operator sign ≡ Some operator → begins o.SuffixRest (i.Token (t.Sign sign)) ≡ Some (keeps StepPart)
step_row s.Increment operator h = refl
step_row s.Decrement operator h = refl
step_row _ operator h = absurd (not_some h)

step_tolerates : (sign : Sign) (operator : PostfixOperator) (k : Token) (us : List Classified) (more : List Symbol) → postfix_operator sign ≡ Some operator → Tolerates more (less_at (at (t.Sign sign) k ∷ us))
step_tolerates s.Less operator k us more h = absurd (not_some h)
step_tolerates _ operator k us more h = tt

step_ends : (sign : Sign) (operator : PostfixOperator) (k : Token) (us : List Classified) → postfix_operator sign ≡ Some operator → PrimaryEnds (at (t.Sign sign) k ∷ us)
step_ends s.Increment operator k us h = (refl, refl, refl)
step_ends s.Decrement operator k us h = (refl, refl, refl)
step_ends _ operator k us h = absurd (not_some h)

abbrev PrefixPart : List Symbol
PrefixPart = Non o.Unary ∷ Act a.MakePrefix ∷ []

prefix_row : (sign : Sign) (operator : PrefixOperator) → prefix_operator sign ≡ Some operator → begins o.Unary (i.Token (t.Sign sign)) ≡ Some (keeps PrefixPart)
prefix_row s.Exclamation operator h = refl
prefix_row s.Tilde operator h = refl
prefix_row s.Minus operator h = refl
prefix_row s.Plus operator h = refl
prefix_row s.Increment operator h = refl
prefix_row s.Decrement operator h = refl
prefix_row s.Percent operator h = refl
prefix_row _ operator h = absurd (not_some h)

abbrev AssignPart : List Symbol
AssignPart = Non o.Expression ∷ Act a.MakeAssignment ∷ []

assign_row : (sign : Sign) (operator : AssignmentOperator) → assignment_operator sign ≡ Some operator → begins o.AfterUnary (i.Token (t.Sign sign)) ≡ Some (keeps AssignPart)
assign_row sign operator h = rw h refl

assign_tolerates : (sign : Sign) (operator : AssignmentOperator) (k : Token) (us : List Classified) (more : List Symbol) → assignment_operator sign ≡ Some operator → Tolerates more (less_at (at (t.Sign sign) k ∷ us))
assign_tolerates s.Less operator k us more h = absurd (not_some h)
assign_tolerates _ operator k us more h = tt

abbrev CastPart : List Symbol
CastPart = Non o.Less ∷ Non o.Type ∷ Non o.Greater ∷ Non o.OpenParenthesis ∷ Non o.Expression ∷ Non o.KeptCloseParenthesis ∷ Act a.MakeNamedCast ∷ Non o.SuffixRest ∷ []

cast_row : (word : ReservedWord) (casts : CastWord) → cast_word word ≡ Some casts → begins o.Unary (i.Token (t.Word word)) ≡ Some (keeps CastPart)
cast_row w.SafeCast casts h = refl
cast_row w.StaticCast casts h = refl
cast_row w.DynamicCast casts h = refl
cast_row _ casts h = absurd (not_some h)

id_path_starts : {path : List Identifier} {id : Terminal} {k : Token} {ts rest : List Classified} → ReadsPath path ts (at id k ∷ rest) → Id id → StartsName ts
id_path_starts g.none plain = tt
id_path_starts g.none function = tt
id_path_starts (g.next plain p) j = tt
id_path_starts (g.next function p) j = tt

types_first : {types : List TypeName} {ts rest : List Classified} → ReadsTypes types ts rest → TypeFirst ts
types_first (g.last p) = (type_first p).1
types_first (g.more p q) = (type_first p).1

no_cast : (input : Input) (value : Value) (fs : List Fed) → IsOperand input → (more : List Symbol) (vs : List Value)
    → Meets (At (Non o.CastOrGroup ∷ more) vs (fed input value ∷ fs)) (At (Non o.Expression ∷ Non o.KeptCloseParenthesis ∷ Act a.MakeGroup ∷ Non o.SuffixRest ∷ more) vs (fed input value ∷ fs))
no_cast _ value fs plain_name more vs = ahead same
no_cast _ value fs function_name more vs = ahead same
no_cast _ value fs operand_type more vs = ahead same

-- `(` before an expression
opens_group : (ts : List Classified) → Starts ts → (more : List Symbol) (vs : List Value)
    → Meets (At (Non o.AfterParenthesis ∷ more) vs (read ts)) (At (Non o.Expression ∷ Non o.KeptCloseParenthesis ∷ Act a.MakeGroup ∷ Non o.SuffixRest ∷ more) vs (read ts))
opens_group ts (token c l) more vs = pass o.AfterParenthesis (Non o.Expression ∷ Non o.KeptCloseParenthesis ∷ Act a.MakeGroup ∷ Non o.SuffixRest ∷ []) (λ a b c. refl) refl ts l.0 more vs
opens_group ts (operand {input} {value} {fs} c l j heads) more vs =
    then (look o.AfterParenthesis (Non o.TypeOrName ∷ Non o.CastOrGroup ∷ []) (λ a b c. refl) ts l.0 more vs)
    (then (heads (Non o.CastOrGroup ∷ more) vs) (then (no_cast input value fs j more vs) (operand_expression ts input value fs l j heads _ vs)))

no_name_types : (input : Input) → IsOperand input → begins o.NameTypes input ≡ None
no_name_types _ plain_name = refl
no_name_types _ function_name = refl
no_name_types _ operand_type = refl

no_member_types : (input : Input) → IsOperand input → begins o.MemberTypes input ≡ None
no_member_types _ plain_name = refl
no_member_types _ function_name = refl
no_member_types _ operand_type = refl

no_new_types : (input : Input) → IsOperand input → begins o.NewTypes input ≡ None
no_new_types _ plain_name = refl
no_new_types _ function_name = refl
no_new_types _ operand_type = refl

-- a function's name without arguments
name_ends : (rest : List Classified) (more : List Symbol) (vs : List Value) → Tolerates more (less_at rest) → Meets (At (Non o.FunctionNameRest ∷ more) vs (read rest)) (At (Act a.MakeName ∷ more) vs (read rest))
name_ends [] more vs h = ahead same
name_ends (at (t.Sign s.Less) k ∷ us) more vs h =
    ahead (less_back o.AfterNameLess o.NameTypes (Act a.MakeName ∷ []) (λ a b c. refl) (λ a b c. refl) refl refl no_name_types k us (λ f. f.1) (λ f. f.1) more vs (tolerates_act a.MakeName more (Some (k, us)) h))
name_ends (at _ k ∷ us) more vs h = ahead same

member_ends : (rest : List Classified) (more : List Symbol) (vs : List Value) → Tolerates more (less_at rest) → Meets (At (Non o.FunctionMemberRest ∷ more) vs (read rest)) (At (Act a.MakeMember ∷ more) vs (read rest))
member_ends [] more vs h = ahead same
member_ends (at (t.Sign s.Less) k ∷ us) more vs h =
    ahead (less_back o.AfterMemberLess o.MemberTypes (Act a.MakeMember ∷ []) (λ a b c. refl) (λ a b c. refl) refl refl no_member_types k us (λ f. f.2) (λ f. f.2) more vs (tolerates_act a.MakeMember more (Some (k, us)) h))
member_ends (at _ k ∷ us) more vs h = ahead same

new_ends : (rest : List Classified) → NoParenthesis rest → NoBrace rest → (more : List Symbol) (vs : List Value) → Tolerates more (less_at rest)
    → Meets (At (Non o.NewTypeRest ∷ more) vs (read rest)) (At (Act a.MakeNamed ∷ Act a.MakeNew ∷ more) vs (read rest))
new_ends [] i j more vs h = ahead (ahead (ahead (behind same)))
new_ends (at (t.Sign s.Less) k ∷ us) i j more vs h =
    ahead (less_back o.AfterNewLess o.NewTypes (Act a.MakeNamed ∷ Act a.MakeNew ∷ []) (λ a b c. refl) (λ a b c. refl) refl refl no_new_types k us (λ f. f.3) (λ f. f.3) more vs (tolerates_act a.MakeNamed (Act a.MakeNew ∷ more) (Some (k, us)) (tolerates_act a.MakeNew more (Some (k, us)) h)))
new_ends (at (t.Sign s.OpenParenthesis) k ∷ us) i j more vs h = absurd i
new_ends (at (t.Sign s.OpenBrace) k ∷ us) i j more vs h = absurd j
new_ends (at _ k ∷ us) i j more vs h = ahead (ahead (ahead (behind same)))

new_without : (rest : List Classified) → NoParenthesis rest → NoBrace rest → (more : List Symbol) (vs : List Value)
    → Meets (At (Non o.NewArguments ∷ more) vs (read rest)) (At (Act a.MakeNew ∷ more) vs (read rest))
new_without [] i j more vs = ahead same
new_without (at (t.Sign s.OpenParenthesis) k ∷ us) i j more vs = absurd i
new_without (at (t.Sign s.OpenBrace) k ∷ us) i j more vs = absurd j
new_without (at _ k ∷ us) i j more vs = ahead same

without_elements : (rest : List Classified) → NoBrace rest → (more : List Symbol) (vs : List Value)
    → Meets (At (Non o.NewElements ∷ more) vs (read rest)) (At (Act a.MakeNewWith ∷ more) vs (read rest))
without_elements [] j more vs = ahead same
without_elements (at (t.Sign s.OpenBrace) k ∷ us) j more vs = absurd j
without_elements (at _ k ∷ us) j more vs = ahead same

new_path : {path : List Identifier} {word : ContextualWord} {k : Token} {ts rest : List Classified} → ReadsPath path ts (at (t.Name n.Type word) k ∷ rest)
    → (names : List Identifier) (more : List Symbol) (vs : List Value) → Meets (At (Non o.NewPath ∷ more) (v.Path names ∷ vs) (read ts)) (At (Non o.NewTypeRest ∷ more) (named_value (names ++ path) (identifier k) ∷ vs) (read rest))
new_path {k} {rest} g.none names more vs = ahead (ahead (with_values {ts = read rest} (ap (λ q. named_value q (identifier k) ∷ vs) (sym (append-nil names))) same))
new_path {k} {rest} (g.next {path = outer} {k = l} plain p) names more vs =
    ahead (ahead (ahead (ahead (with_values {ts = read rest} (ap (λ q. named_value q (identifier k) ∷ vs) (append_assoc names (identifier l ∷ []) outer)) (new_path p (names ++ identifier l ∷ []) more vs)))))
new_path {k} {rest} (g.next {path = outer} {k = l} function p) names more vs =
    ahead (ahead (ahead (ahead (with_values {ts = read rest} (ap (λ q. named_value q (identifier k) ∷ vs) (append_assoc names (identifier l ∷ []) outer)) (new_path p (names ++ identifier l ∷ []) more vs)))))

new_name : {path : List Identifier} {word : ContextualWord} {k : Token} {ts rest : List Classified} → ReadsPath path ts (at (t.Name n.Type word) k ∷ rest)
    → (more : List Symbol) (vs : List Value) → Meets (At (Non o.NewName ∷ more) vs (read ts)) (At (Non o.NewTypeRest ∷ more) (named_value path (identifier k) ∷ vs) (read rest))
new_name g.none more vs = ahead (ahead same)
new_name (g.next {k = l} plain p) more vs = ahead (ahead (ahead (ahead (new_path p (identifier l ∷ []) more vs))))
new_name (g.next {k = l} function p) more vs = ahead (ahead (ahead (ahead (new_path p (identifier l ∷ []) more vs))))

-- the type of a `gcnew` before parentheses or braces
new_type : {of : TypeName} {span : Span} {ts rest : List Classified} → ReadsNamed of span ts rest → Passes o.NewTypeRest rest
    → (more : List Symbol) (vs : List Value) → Meets (At (Non o.NewName ∷ more) vs (read ts)) (At (Non o.NewArguments ∷ more) (type_value of span ∷ vs) (read rest))
new_type {rest} (g.alone p) h more vs = then (new_name p more vs) (then (pass o.NewTypeRest (Act a.MakeNamed ∷ Non o.NewArguments ∷ []) (λ a b c. refl) refl rest h more _) (ahead same))
new_type (g.applied {less} p q) h more vs =
    then (new_name p more vs) (ahead (then (look o.AfterNewLess (Non o.TypeOrName ∷ Non o.NewTypes ∷ []) (λ a b c. refl) _ (types_first q).3 more _)
    (then (types_taken o.NewTypes (Non o.KeptGreater ∷ Act a.MakeApplied ∷ Non o.NewArguments ∷ []) (λ a b c. refl) refl q more _) (ahead (ahead same)))))

-- a `gcnew` with its type alone
new_alone : {of : TypeName} {span : Span} {ts rest : List Classified} → ReadsNamed of span ts rest → NoParenthesis rest → NoBrace rest
    → (more : List Symbol) (vs : List Value) → Tolerates more (less_at rest) → Meets (At (Non o.NewName ∷ more) vs (read ts)) (At (Act a.MakeNew ∷ more) (type_value of span ∷ vs) (read rest))
new_alone {rest} (g.alone p) i j more vs h = then (new_name p more vs) (then (new_ends rest i j more _ h) (ahead same))
new_alone {rest} (g.applied {less} p q) i j more vs h =
    then (new_name p more vs) (ahead (then (look o.AfterNewLess (Non o.TypeOrName ∷ Non o.NewTypes ∷ []) (λ a b c. refl) _ (types_first q).3 more _)
    (then (types_taken o.NewTypes (Non o.KeptGreater ∷ Act a.MakeApplied ∷ Non o.NewArguments ∷ []) (λ a b c. refl) refl q more _) (ahead (ahead (new_without rest i j more _))))))

abbrev texts_value : List (List ℕ) → Span → Value
texts_value texts span = v.Texts (record { tree = texts; span = span })

more_texts : {texts : List (List ℕ)} {span : Span} {ts rest : List Classified} → ReadsStrings texts span ts rest → Passes o.StringsRest rest → (first : List (List ℕ)) (whole : Span) (more : List Symbol) (vs : List Value)
    → Meets (At (Non o.StringsRest ∷ more) (texts_value first whole ∷ vs) (read ts)) (At more (texts_value (first ++ texts) (across whole span) ∷ vs) (read rest))
more_texts {rest} x.last h first whole more vs = ahead (ahead (pass o.StringsRest [] (λ a b c. refl) refl rest h more _))
more_texts {span} {rest} (x.more {text} {texts = others} {first = begin} {span = end} p) h first whole more vs =
    ahead (ahead (with_values {ts = read rest} (ap (λ q. texts_value q (across whole end) ∷ vs) (append_assoc first (text ∷ []) others)) (more_texts p h (first ++ text ∷ []) (across whole begin) more vs)))

strings_come : {texts : List (List ℕ)} {span : Span} {ts rest : List Classified} → ReadsStrings texts span ts rest → Passes o.StringsRest rest → (more : List Symbol) (vs : List Value)
    → Meets (At (Non o.Unary ∷ more) vs (read ts)) (At (Non o.SuffixRest ∷ more) (expression_value (tree.Strings texts span) span ∷ vs) (read rest))
strings_come {rest} x.last h more vs = ahead (ahead (then (pass o.StringsRest [] (λ a b c. refl) refl rest h _ _) (ahead same)))
strings_come (x.more {text} {first} p) h more vs = ahead (ahead (then (more_texts p h (text ∷ []) first _ _) (ahead same)))

abbrev pub expressions_value : List Expression → Span → Value
expressions_value items span = v.Expressions (record { tree = items; span = span })

grows : (first : List Expression) (one : Expression) (whole left right : Span) → grown_from (first ++ one ∷ []) (grown_from first whole left) right ≡ grown_from first whole (across left right)
grows [] one whole left right = refl
grows (other ∷ first) one whole left right = refl

spans_list : {items : List Expression} {span : Span} {ts rest : List Classified} → ReadsExpressions items span ts rest → (before : Span) → list_span_from items span before ≡ span
spans_list (x.last p) before = refl
spans_list (x.more p q) before = refl

starts_list : {items : List Expression} {span : Span} {ts rest : List Classified} → ReadsExpressions items span ts rest → PrimaryEnds rest → Starts ts
starts_list (x.last p) h = starts_expression p h
starts_list (x.more p q) h = starts_expression p (refl, refl, refl)

no_level : (m : ℕ) (q : Option (Token × List Classified)) → IsNothing (Token × List Classified) q → LessLevel m q
no_level m None h = tt
no_level m (Some one) h = absurd h

ends_one : (rest : List Classified) → ((l : ℕ) → Passes (o.BinaryRest l) rest) → IsNothing (Token × List Classified) (less_at rest) → Ends 1 rest
ends_one rest h j = ((λ l n more vs lt. pass (o.BinaryRest l) [] (λ a b c. refl) refl rest (h l) _ vs), no_level 1 (less_at rest) j)

-- what is expected behind the first operand, where no assignment follows it
abbrev Opens : List Symbol → ℕ → List Symbol → Type 0
Opens continued n more = (fs : List Fed) (vs : List Value) → FedPasses o.AfterUnary fs → Meets (At continued vs fs) (At (Non (o.BinaryRest n) ∷ more) vs fs)

tolerates_first : (continued more : List Symbol) (n : ℕ) → Opens continued n more → (q : Option (Token × List Classified)) → Tolerates (Non (o.BinaryRest n) ∷ more) q → Tolerates continued q
tolerates_first continued more n opens None h = tt
tolerates_first continued more n opens (Some (k, us)) h =
    (h.0, λ input value fs f j heads vs. then (opens (fed (i.Token (t.Sign s.Less)) (less_value k) ∷ fed input value ∷ fs) vs refl) (then (h.1 input value fs f j heads vs) (turn (opens (fed (i.Token (t.Sign s.Less)) (less_value k) ∷ read us) vs refl))))

opens_first : (more : List Symbol) → Opens (Non o.AfterUnary ∷ more) 1 (Non o.ConditionalRest ∷ more)
opens_first more fs vs h = pass_fed o.AfterUnary (Non (o.BinaryRest 1) ∷ Non o.ConditionalRest ∷ []) (λ a b c. refl) refl fs h more vs

mutual
  pub expression_comes : {one : Expression} {span : Span} {ts rest : List Classified} → ReadsExpression one span ts rest → ExpressionEnds rest
      → (more : List Symbol) (vs : List Value) → Meets (At (Non o.Expression ∷ more) vs (read ts)) (At more (expression_value one span ∷ vs) (read rest))
  expression_comes {ts} {rest} (x.assign {left} {right} {sign} {operator} {first} {second} {k} {us} p e q) h more vs =
      then (expression_unary ts more vs)
      (then (unary_comes p (ends_assignment sign operator k us e) (Non o.AfterUnary ∷ more) (assign_tolerates sign operator k us (Non o.AfterUnary ∷ more) e) vs)
      (then (put_fed o.AfterUnary (keeps AssignPart) (λ a b c. refl) (i.Token (t.Sign sign)) (mark (t.Sign sign) k.span) (read us) (assign_row sign operator e) more (expression_value left first ∷ vs))
      (then (expression_comes q h (Act a.MakeAssignment ∷ more) (mark (t.Sign sign) k.span ∷ expression_value left first ∷ vs))
      (ahead (with_values {ts = read rest} (ap (λ q. expression_value (tree.Assign left q right (across first second)) (across first second) ∷ vs) (assignment_agrees sign operator e)) same)))))
  expression_comes {ts} (x.conditional p) h more vs = then (expression_unary ts more vs) (conditional_comes p h more vs)

  conditional_comes : {one : Expression} {span : Span} {ts rest : List Classified} → ReadsConditional one span ts rest → ExpressionEnds rest
      → (more : List Symbol) (vs : List Value) → Meets (At (Non o.Unary ∷ Non o.AfterUnary ∷ more) vs (read ts)) (At more (expression_value one span ∷ vs) (read rest))
  conditional_comes (x.choice {question} {us} p q r) h more vs =
      then (binary_comes p 1 (omega arith) (ends_one (at (t.Sign s.Question) question ∷ us) (λ l. refl) tt) (((refl, refl, refl), refl), refl) (Non o.AfterUnary ∷ more) (Non o.ConditionalRest ∷ more) (opens_first more) tt vs)
      (ahead (ahead (then (expression_comes q ((((refl, refl, refl), refl), refl), (λ l. refl), refl, tt) _ _) (ahead (then (expression_comes r h _ _) (ahead same))))))
  conditional_comes {rest} (x.binary p) h more vs =
      then (binary_comes p 1 (omega arith) (ends_one rest h.1 h.3) h.0 (Non o.AfterUnary ∷ more) (Non o.ConditionalRest ∷ more) (opens_first more) (tolerates_nothing (Non (o.BinaryRest 1) ∷ Non o.ConditionalRest ∷ more) (less_at rest) h.3) vs)
      (then (pass (o.BinaryRest 1) [] (λ a b c. refl) refl rest (h.1 1) _ _) (pass o.ConditionalRest [] (λ a b c. refl) refl rest h.2 _ _))

  binary_comes : {m : ℕ} {one : Expression} {span : Span} {ts rest : List Classified} → ReadsBinary m one span ts rest → (n : ℕ) → n ≤ m → Ends m rest → OperandEnds rest
      → (continued more : List Symbol) → Opens continued n more → Tolerates (Non (o.BinaryRest n) ∷ more) (less_at rest)
      → (vs : List Value) → Meets (At (Non o.Unary ∷ continued) vs (read ts)) (At (Non (o.BinaryRest n) ∷ more) (expression_value one span ∷ vs) (read rest))
  binary_comes {m} {rest} (x.joined {operator} {left} {right} {first} {us} {vs = ws} l p q r) n h j k continued more opens i vs =
      let st : Starts ws = starts_binary r k.0.0 in
      let behind_it : List Symbol = Act a.MakeBinary ∷ Non (o.BinaryRest n) ∷ more in
      then (binary_comes p n (omega (h, l, arith)) (operator_ends q (common st).1) (ends_operator q) continued more opens (operator_tolerates q n (omega (h, l, arith)) st more) vs)
      (then (takes_operator operator us ws (operator_folds q (common st).1) n (omega (h, l, arith)) more (expression_value left first ∷ vs))
      (then (binary_comes r (level operator + 1) (omega arith) (ends_grow m (level operator + 1) rest (omega (l, arith)) j) k (Non (o.BinaryRest (level operator + 1)) ∷ behind_it) behind_it (λ fs ys o. same)
      (tolerates_level m (level operator + 1) n (omega (l, arith)) more (less_at rest) j.1 i) (v.Operator operator ∷ expression_value left first ∷ vs))
      (then (j.0 (level operator + 1) n more _ (omega (l, arith))) (ahead same))))
  binary_comes {rest} (x.unary p) n h j k continued more opens i vs =
      then (unary_comes p k.0 continued (tolerates_first continued more n opens (less_at rest) i) vs) (opens (read rest) _ (fed_passes o.AfterUnary rest k.1))

  pub unary_comes : {one : Expression} {span : Span} {ts rest : List Classified} → ReadsUnary one span ts rest → UnaryEnds rest
      → (more : List Symbol) → Tolerates more (less_at rest) → (vs : List Value) → Meets (At (Non o.Unary ∷ more) vs (read ts)) (At more (expression_value one span ∷ vs) (read rest))
  unary_comes {rest} (x.prefix {sign} {operator} {x = one} {span} {k} {ts} e p) h more j vs =
      then (put_fed o.Unary (keeps PrefixPart) (λ a b c. refl) (i.Token (t.Sign sign)) (mark (t.Sign sign) k.span) (read ts) (prefix_row sign operator e) more vs)
      (then (unary_comes p h (Act a.MakePrefix ∷ more) (tolerates_act a.MakePrefix more (less_at rest) j) (mark (t.Sign sign) k.span ∷ vs))
      (ahead (with_values {ts = read rest} (ap (λ q. expression_value (tree.Prefix q one (across k.span span)) (across k.span span) ∷ vs) (prefix_agrees sign operator e)) same)))
  unary_comes {rest} (x.cast {ts} p q) h more j vs =
      ahead (then (look o.AfterParenthesis (Non o.TypeOrName ∷ Non o.CastOrGroup ∷ []) (λ a b c. refl) ts (type_first p).1.0 more _)
      (then (type_taken o.CastOrGroup (Non o.CloseParenthesis ∷ Non o.Unary ∷ Act a.MakeCast ∷ []) (λ a b c. refl) refl p ((refl, refl, refl), refl, refl) refl more _)
      (ahead (then (unary_comes q h (Act a.MakeCast ∷ more) (tolerates_act a.MakeCast more (less_at rest) j) _) (ahead same)))))
  unary_comes {rest} (x.postfix p) h more j vs =
      then (postfix_comes p h.0 more (tolerates_pass o.SuffixRest [] (λ a b c. refl) refl refl more (less_at rest) j) vs) (pass o.SuffixRest [] (λ a b c. refl) refl rest h.1 more _)

  postfix_comes : {one : Expression} {span : Span} {ts rest : List Classified} → ReadsPostfix one span ts rest → PrimaryEnds rest
      → (more : List Symbol) → Tolerates (Non o.SuffixRest ∷ more) (less_at rest) → (vs : List Value) → Meets (At (Non o.Unary ∷ more) vs (read ts)) (At (Non o.SuffixRest ∷ more) (expression_value one span ∷ vs) (read rest))
  postfix_comes (x.primary p) h more j vs = primary_comes p h more j vs
  postfix_comes (x.index p q) h more j vs = then (postfix_comes p (refl, refl, refl) more tt vs) (ahead (then (expression_comes q ((((refl, refl, refl), refl), refl), (λ l. refl), refl, tt) _ _) (ahead (ahead same))))
  postfix_comes (x.call {open_} p q) h more j vs =
      then (postfix_comes p (refl, refl, refl) more tt vs) (ahead (then (arguments_come (t.Sign s.OpenParenthesis) q (((((refl, refl, refl), refl), refl), (λ l. refl), refl, tt), refl, refl) _ _) (ahead (ahead same))))
  postfix_comes {rest} (x.member {x = one} {sign} {selects} {span} {dot} {k} p e plain) h more j vs =
      then (postfix_comes p (selector_ends sign selects dot [] e) more (selector_tolerates sign selects dot _ (Non o.SuffixRest ∷ more) e) vs)
      (then (put_fed o.SuffixRest (keeps SelectorPart) (λ a b c. refl) (i.Token (t.Sign sign)) (mark (t.Sign sign) dot.span) _ (selector_row sign selects e) more _)
      (ahead (ahead (with_values {ts = read rest} (ap (λ q. expression_value (tree.Member one q (identifier k) None (across span k.span)) (across span k.span) ∷ vs) (selector_agrees sign selects e)) same))))
  postfix_comes {rest} (x.member {x = one} {sign} {selects} {span} {dot} {k} p e function) h more j vs =
      then (postfix_comes p (selector_ends sign selects dot [] e) more (selector_tolerates sign selects dot _ (Non o.SuffixRest ∷ more) e) vs)
      (then (put_fed o.SuffixRest (keeps SelectorPart) (λ a b c. refl) (i.Token (t.Sign sign)) (mark (t.Sign sign) dot.span) _ (selector_row sign selects e) more _)
      (ahead (then (member_ends rest (Non o.SuffixRest ∷ more) _ j)
      (ahead (with_values {ts = read rest} (ap (λ q. expression_value (tree.Member one q (identifier k) None (across span k.span)) (across span k.span) ∷ vs) (selector_agrees sign selects e)) same)))))
  postfix_comes {rest} (x.member_of {x = one} {sign} {selects} {span} {dot} {k} p e (g.listed {types} {less} {greater} {ts = us} q)) h more j vs =
      then (postfix_comes p (selector_ends sign selects dot [] e) more (selector_tolerates sign selects dot _ (Non o.SuffixRest ∷ more) e) vs)
      (then (put_fed o.SuffixRest (keeps SelectorPart) (λ a b c. refl) (i.Token (t.Sign sign)) (mark (t.Sign sign) dot.span) _ (selector_row sign selects e) more _)
      (ahead (ahead (then (look o.AfterMemberLess (Non o.TypeOrName ∷ Non o.MemberTypes ∷ []) (λ a b c. refl) us (types_first q).2 _ _)
      (then (types_taken o.MemberTypes (Non o.KeptGreater ∷ Act a.MakeTypeArguments ∷ Act a.MakeMemberOf ∷ []) (λ a b c. refl) refl q _ _)
      (ahead (ahead (ahead (with_values {ts = read rest}
      (ap (λ q. expression_value (tree.Member one q (identifier k) (Some (record { types = types; span = across less.span greater.span })) (across span (across less.span greater.span))) (across span (across less.span greater.span)) ∷ vs) (selector_agrees sign selects e)) same)))))))))
  postfix_comes {rest} (x.finaliser {x = one} {sign} {selects} {span} {dot} {k} p e) h more j vs =
      then (postfix_comes p (selector_ends sign selects dot [] e) more (selector_tolerates sign selects dot _ (Non o.SuffixRest ∷ more) e) vs)
      (then (put_fed o.SuffixRest (keeps SelectorPart) (λ a b c. refl) (i.Token (t.Sign sign)) (mark (t.Sign sign) dot.span) _ (selector_row sign selects e) more _)
      (ahead (ahead (ahead (with_values {ts = read rest} (ap (λ q. expression_value (tree.Finaliser one q (identifier k) (across span k.span)) (across span k.span) ∷ vs) (selector_agrees sign selects e)) same)))))
  postfix_comes {rest} (x.step {x = one} {sign} {operator} {span} {k} p e) h more j vs =
      then (postfix_comes p (step_ends sign operator k [] e) more (step_tolerates sign operator k rest (Non o.SuffixRest ∷ more) e) vs)
      (then (put_fed o.SuffixRest (keeps StepPart) (λ a b c. refl) (i.Token (t.Sign sign)) (mark (t.Sign sign) k.span) (read rest) (step_row sign operator e) more _)
      (ahead (with_values {ts = read rest} (ap (λ q. expression_value (tree.Postfix one q (across span k.span)) (across span k.span) ∷ vs) (postfix_agrees sign operator e)) same)))

  primary_comes : {one : Expression} {span : Span} {ts rest : List Classified} → ReadsPrimary one span ts rest → PrimaryEnds rest
      → (more : List Symbol) → Tolerates (Non o.SuffixRest ∷ more) (less_at rest) → (vs : List Value) → Meets (At (Non o.Unary ∷ more) vs (read ts)) (At (Non o.SuffixRest ∷ more) (expression_value one span ∷ vs) (read rest))
  primary_comes (x.number x.number) h more j vs = ahead (ahead same)
  primary_comes (x.number x.zero_number) h more j vs = ahead (ahead same)
  primary_comes x.character h more j vs = ahead (ahead same)
  primary_comes (x.strings p) h more j vs = strings_come p h.2 more vs
  primary_comes x.true_ h more j vs = ahead (ahead same)
  primary_comes x.false_ h more j vs = ahead (ahead same)
  primary_comes x.nullptr h more j vs = ahead (ahead same)
  primary_comes x.this h more j vs = ahead (ahead same)
  primary_comes (x.group {ts} p) h more j vs =
      ahead (then (opens_group ts (starts_expression p (refl, refl, refl)) more _) (then (expression_comes p ((((refl, refl, refl), refl), refl), (λ l. refl), refl, tt) _ _) (ahead (ahead same))))
  primary_comes {ts} {rest} (x.name {path} {k} p plain) h more j vs =
      then (operand_read ts i.QualifiedPlain (named_value path (identifier k)) (read rest) (name_first ts (id_path_starts p plain)).1 (plain_heads p h.0) more vs) (ahead (ahead same))
  primary_comes {ts} {rest} (x.name {path} {k} p function) h more j vs =
      then (operand_read ts i.QualifiedFunction (named_value path (identifier k)) (read rest) (name_first ts (id_path_starts p function)).1 (function_heads p h.1) more vs)
      (ahead (then (name_ends rest (Non o.SuffixRest ∷ more) _ j) (ahead same)))
  primary_comes {ts} {rest} (x.name_of {path} {k} p (g.listed {less} {ts = us} q)) h more j vs =
      then (operand_read ts i.QualifiedFunction (named_value path (identifier k)) (read (at (t.Sign s.Less) less ∷ us)) (name_first ts (id_path_starts p function)).1 (function_heads p refl) more vs)
      (ahead (ahead (then (look o.AfterNameLess (Non o.TypeOrName ∷ Non o.NameTypes ∷ []) (λ a b c. refl) us (types_first q).1 _ _)
      (then (types_taken o.NameTypes (Non o.KeptGreater ∷ Act a.MakeTypeArguments ∷ Act a.MakeNameOf ∷ []) (λ a b c. refl) refl q _ _) (ahead (ahead (ahead same)))))))
  primary_comes {ts} (x.static_member {of} {span} p plain) h more j vs =
      then (operand_read ts i.OperandType (type_value of span) _ (core_first p).1 (operand_heads p (refl, refl, refl) refl) more vs) (ahead (ahead (ahead (ahead same))))
  primary_comes {ts} (x.static_member {of} {span} p function) h more j vs =
      then (operand_read ts i.OperandType (type_value of span) _ (core_first p).1 (operand_heads p (refl, refl, refl) refl) more vs) (ahead (ahead (ahead (ahead same))))
  primary_comes {ts} (x.construct {of} {span} p q) h more j vs =
      then (operand_read ts i.OperandType (type_value of span) _ (core_first p).1 (operand_heads p (refl, refl, refl) refl) more vs)
      (ahead (ahead (then (arguments_come (t.Sign s.OpenParenthesis) q (((((refl, refl, refl), refl), refl), (λ l. refl), refl, tt), refl, refl) _ _) (ahead (ahead same)))))
  primary_comes (x.new p k l) h more j vs = ahead (then (new_alone p k l (Non o.SuffixRest ∷ more) _ j) (ahead same))
  primary_comes {rest} (x.new_with p q k) h more j vs =
      ahead (then (new_type p refl _ _) (ahead (then (arguments_come (t.Sign s.OpenParenthesis) q (((((refl, refl, refl), refl), refl), (λ l. refl), refl, tt), refl, refl) _ _) (ahead (then (without_elements rest k _ _) (ahead same))))))
  primary_comes (x.new_of p q) h more j vs =
      ahead (then (new_type p refl _ _) (ahead (then (arguments_come (t.Sign s.OpenBrace) q (((((refl, refl, refl), refl), refl), (λ l. refl), refl, tt), refl, refl) _ _) (ahead (ahead same)))))
  primary_comes (x.new_with_of p q r) h more j vs =
      ahead (then (new_type p refl _ _) (ahead (then (arguments_come (t.Sign s.OpenParenthesis) q (((((refl, refl, refl), refl), refl), (λ l. refl), refl, tt), refl, refl) _ _)
      (ahead (ahead (then (arguments_come (t.Sign s.OpenBrace) r (((((refl, refl, refl), refl), refl), (λ l. refl), refl, tt), refl, refl) _ _) (ahead (ahead same))))))))
  primary_comes {rest} (x.named_cast {word} {casts} {of} {x = one} {k} {close} e p q) h more j vs =
      then (put_fed o.Unary (keeps CastPart) (λ a b c. refl) (i.Token (t.Word word)) (mark (t.Word word) k.span) _ (cast_row word casts e) more vs)
      (ahead (then (type_comes p ((refl, refl, refl), refl, refl) _ _) (ahead (ahead (then (expression_comes q ((((refl, refl, refl), refl), refl), (λ l. refl), refl, tt) _ _)
      (ahead (ahead (with_values {ts = read rest} (ap (λ q. expression_value (tree.NamedCast q of one (across k.span close.span)) (across k.span close.span) ∷ vs) (cast_agrees word casts e)) same))))))))

  -- the arguments behind the sign that opens them
  pub arguments_come : (opening : Terminal) {before : Span} {given : Arguments} {ts rest : List Classified} → ReadsArguments before given ts rest → ArgumentsEnd rest
      → (more : List Symbol) (vs : List Value) → Meets (At (Act a.StartExpressions ∷ Non o.Arguments ∷ Act a.MakeArguments ∷ more) (mark opening before ∷ vs) (read ts)) (At more (v.Arguments given ∷ vs) (read rest))
  arguments_come opening {rest} x.none h more vs = ahead (then (look o.Arguments [] (λ a b c. refl) rest h.2 _ _) (ahead same))
  arguments_come opening {before} {ts} {rest} (x.some {span} {items} p) h more vs =
      ahead (then (pass o.Arguments (Non o.Expression ∷ Act a.AddExpression ∷ Non o.MoreExpressions ∷ []) (λ a b c. refl) refl ts (common (starts_list p h.0.0.0.0)).0 _ _)
      (then (expressions_come p h.0 h.1 [] _ (Act a.MakeArguments ∷ more) _) (ahead (with_values {ts = read rest} (ap (λ q. v.Arguments (arguments items q) ∷ vs) (spans_list p before)) same))))

  pub expressions_come : {items : List Expression} {span : Span} {ts rest : List Classified} → ReadsExpressions items span ts rest → ExpressionEnds rest → Passes o.MoreExpressions rest
      → (first : List Expression) (whole : Span) (more : List Symbol) (vs : List Value)
      → Meets (At (Non o.Expression ∷ Act a.AddExpression ∷ Non o.MoreExpressions ∷ more) (expressions_value first whole ∷ vs) (read ts)) (At more (expressions_value (first ++ items) (grown_from first whole span) ∷ vs) (read rest))
  expressions_come {rest} (x.last p) h j first whole more vs = then (expression_comes p h _ _) (ahead (pass o.MoreExpressions [] (λ a b c. refl) refl rest j _ _))
  expressions_come {rest} (x.more {x = one} {items = others} {first = left} {span = right} p q) h j first whole more vs =
      then (expression_comes p ((((refl, refl, refl), refl), refl), (λ l. refl), refl, tt) _ _)
      (ahead (ahead (with_values {ts = read rest} (ap (λ q. expressions_value q (grown_from first whole (across left right)) ∷ vs) (append_assoc first (one ∷ []) others))
      (with_values {ts = read rest} (ap (λ q. expressions_value ((first ++ one ∷ []) ++ others) q ∷ vs) (grows first one whole left right))
      (expressions_come q h j (first ++ one ∷ []) (grown_from first whole left) more vs)))))

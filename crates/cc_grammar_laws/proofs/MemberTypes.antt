-- The type of a member, with the word `property` before it or as its name.
use Rattle.std.proofs.Common.{◌≡◌, refl, List, [], ◌∷◌, ◌++◌}
use Rattle.std.specs.Prelude.{Some}
use Rattle.cc_base.specs.declared.text.Span.{Span}
use Rattle.cc_tree.specs.declared.token.Token.{Token}
use Rattle.cc_tree.specs.declared.terminal.Terminal.{Terminal}
use Rattle.cc_tree.specs.declared.terminal.Terminal.TheVariants as t
use Rattle.cc_tree.specs.declared.terminal.NameKind.TheVariants as n
use Rattle.cc_tree.specs.declared.terminal.ContextualWord.{ContextualWord}
use Rattle.cc_tree.specs.declared.terminal.Sign.TheVariants as s
use Rattle.cc_tree.specs.declared.type_name.TypeName.{TypeName}
use Rattle.cc_tree.specs.declared.identifier.Identifier.{Identifier}
use Rattle.cc_tree.specs.Spans.{identifier}
use Rattle.cc_tree.specs.Terminals.{Classified, at, Id, plain, function}
use Rattle.cc_tree.specs.GrammarTypes as g
use Rattle.cc_tree.specs.GrammarTypes.{ReadsPath, ReadsType, ReadsCore, ReadsNamed, ReadsTypes, ReadsTypeArguments}
use Rattle.cc_table.specs.declared.symbols.Sort.{Sort}
use Rattle.cc_table.specs.declared.symbols.Sort.TheVariants as o
use Rattle.cc_table.specs.declared.symbols.Action.TheVariants as a
use Rattle.cc_table.specs.declared.symbols.Input.TheVariants as i
use Rattle.cc_table.specs.declared.symbols.Symbol.{Symbol}
use Rattle.cc_table.specs.declared.symbols.Symbol.TheVariants.{Non, Act, Back}
use Rattle.cc_pushdown.specs.declared.value.Value.{Value}
use Rattle.cc_pushdown.specs.declared.value.Value.TheVariants as v
use Rattle.cc_pushdown.specs.Machine.{Fed, fed, At, begins, keeps}
use Rattle.cc_grammar_laws.specs.Read.{read, read_value, Passes}
use Rattle.cc_grammar_laws.proofs.Meets.{Meets, same, ahead, then, pass, pass_fed, FedPasses, Plain, LooksAt, look, put_fed}
use Rattle.cc_grammar_laws.proofs.CompleteTypes.{StartsFundamental, starts_fundamental, TypeEnds, CoreEnds, type_comes, named_value, type_value}
use Rattle.cc_tree.specs.declared.terminal.NameKind.{NameKind}
use Rattle.cc_tree.specs.declared.terminal.ContextualWord.TheVariants as c
use Rattle.cc_grammar_laws.proofs.Starts.{type_facts}
use Rattle.cc_grammar_laws.proofs.CompleteTypes.{fundamental_comes, types_comes, core_comes, path_comes, named_by, marks_come}
use Rattle.cc_grammar_laws.proofs.CompleteStatements.{id_ends}

abbrev name_token : NameKind → ContextualWord → Token → Value
name_token kind word k = v.Name (record { kind = kind; word = word; identifier = identifier k })

abbrev pub name_of : Terminal → Token → Value
name_of terminal k = read_value terminal k.kind k.span

-- a name that is read as it is, or told apart from the type before it
data Declared : Terminal → Token → Fed → Type 0 where
  as_token : {terminal : Terminal} {k : Token} → Declared terminal k (fed (i.Token terminal) (name_of terminal k))
  as_name : {terminal : Terminal} {k : Token} → Declared terminal k (fed i.DeclaredName (name_of terminal k))

-- the way to a type's name in a class
member_path : {path : List Identifier} {word : ContextualWord} {k : Token} {ts rest : List Classified} → ReadsPath path ts (at (t.Name n.Type word) k ∷ rest) → Passes o.PropertyOrType rest → (more : List Symbol) (vs : List Value)
    → Meets (At (Non o.TypeOrProperty ∷ more) vs (read ts)) (At (Non o.TemplateArguments ∷ Back i.CoreType ∷ more) (named_value path (identifier k) ∷ vs) (read rest))
member_path {word = c.Property} {k} {rest} g.none h more vs = ahead (then (pass o.PropertyOrType (Act a.StartPath ∷ Non o.TemplateArguments ∷ Back i.CoreType ∷ []) (λ a b c. refl) refl rest h _ _) (ahead same))
member_path {word = _} g.none h more vs = ahead (ahead same)
member_path (g.next {k = l} (plain {word = c.Property}) p) h more vs = ahead (ahead (ahead (ahead (path_comes p (identifier l ∷ []) _ vs))))
member_path (g.next {k = l} (plain {word = _}) p) h more vs = ahead (ahead (ahead (ahead (path_comes p (identifier l ∷ []) _ vs))))
member_path (g.next {k = l} (function {word = c.Property}) p) h more vs = ahead (ahead (ahead (ahead (path_comes p (identifier l ∷ []) _ vs))))
member_path (g.next {k = l} (function {word = _}) p) h more vs = ahead (ahead (ahead (ahead (path_comes p (identifier l ∷ []) _ vs))))

member_word : (ts : List Classified) → StartsFundamental ts → (more : List Symbol) (vs : List Value)
    → Meets (At (Non o.TypeOrProperty ∷ more) vs (read ts)) (At (Non o.Fundamental ∷ Back i.CoreType ∷ more) vs (read ts))
member_word [] h more vs = absurd h
member_word (at (t.Word word) k ∷ rest) h more vs = ahead (rw h same)
member_word (at _ k ∷ rest) h more vs = absurd h

member_next : (l scope : Token) {id : Terminal} {path : List Identifier} {word : ContextualWord} {k : Token} {ts rest : List Classified} → Id id → ReadsPath path ts (at (t.Name n.Type word) k ∷ rest) → (more : List Symbol) (vs : List Value)
    → Meets (At (Non o.TypeOrProperty ∷ more) vs (read (at id l ∷ at (t.Sign s.Scope) scope ∷ ts))) (At (Non o.TemplateArguments ∷ Back i.CoreType ∷ more) (named_value (identifier l ∷ path) (identifier k) ∷ vs) (read rest))
member_next l scope (plain {word = c.Property}) p more vs = ahead (ahead (ahead (ahead (path_comes p (identifier l ∷ []) _ vs))))
member_next l scope (plain {word = _}) p more vs = ahead (ahead (ahead (ahead (path_comes p (identifier l ∷ []) _ vs))))
member_next l scope (function {word = c.Property}) p more vs = ahead (ahead (ahead (ahead (path_comes p (identifier l ∷ []) _ vs))))
member_next l scope (function {word = _}) p more vs = ahead (ahead (ahead (ahead (path_comes p (identifier l ∷ []) _ vs))))

-- a type's core in a class, where its marks or arguments decide that it is one
member_core : {of : TypeName} {span : Span} {ts rest : List Classified} → ReadsCore of span ts rest → CoreEnds rest → Passes o.PropertyOrType rest → (more : List Symbol) (vs : List Value)
    → Meets (At (Non o.TypeOrProperty ∷ more) vs (read ts)) (At more vs (fed i.CoreType (type_value of span) ∷ read rest))
member_core {ts} (g.fundamental p q) h j more vs = then (member_word ts (starts_fundamental p q) more vs) (then (fundamental_comes p q h _ _) (ahead same))
member_core {rest} (g.named (g.alone p)) h j more vs = then (member_path p j more vs) (then (pass o.TemplateArguments (Act a.MakeNamed ∷ []) (λ a b c. refl) refl rest h.2 _ _) (ahead (ahead same)))
member_core (g.named (g.applied p q)) h j more vs = then (member_path p refl more vs) (ahead (ahead (then (types_comes q (refl, refl, refl) refl refl refl [] _ _) (ahead (ahead (ahead same))))))

-- a type's core in a class before the member's name
core_before : {of : TypeName} {span : Span} {id : Terminal} {k : Token} {ts us : List Classified} → ReadsCore of span ts (at id k ∷ us) → Id id → Passes o.PropertyTypeOrName us
    → (f : Fed) × Declared id k f × ((more : List Symbol) (vs : List Value) → Meets (At (Non o.TypeOrProperty ∷ more) vs (read ts)) (At more vs (fed i.CoreType (type_value of span) ∷ f ∷ read us)))
core_before {id} {k} {ts} {us} (g.fundamental p q) j h = (_, as_token, λ more vs. then (member_word ts (starts_fundamental p q) more vs) (then (fundamental_comes p q (id_ends id k us j).0.0 _ _) (ahead same)))
core_before {us} (g.named (g.alone {word = c.Property} {k = l} g.none)) plain h =
    (_, as_name, λ more vs. ahead (ahead (then (pass o.PropertyTypeOrName (Back i.DeclaredName ∷ Act a.StartPath ∷ Act a.MakeNamed ∷ Back i.CoreType ∷ []) (λ a b c. refl) refl us h more _) (ahead (ahead (ahead (ahead same)))))))
core_before {us} (g.named (g.alone {word = c.Property} {k = l} g.none)) function h =
    (_, as_name, λ more vs. ahead (ahead (then (pass o.PropertyTypeOrName (Back i.DeclaredName ∷ Act a.StartPath ∷ Act a.MakeNamed ∷ Back i.CoreType ∷ []) (λ a b c. refl) refl us h more _) (ahead (ahead (ahead (ahead same)))))))
core_before {id} {k} {us} (g.named (g.alone {word = _} g.none)) plain h = (_, as_token, λ more vs. ahead (ahead (ahead (ahead (ahead same)))))
core_before {id} {k} {us} (g.named (g.alone {word = _} g.none)) function h = (_, as_token, λ more vs. ahead (ahead (ahead (ahead (ahead same)))))
core_before (g.named (g.alone (g.next {k = l} {scope} q p))) plain h = (_, as_token, λ more vs. then (member_next l scope q p more vs) (ahead (ahead (ahead same))))
core_before (g.named (g.alone (g.next {k = l} {scope} q p))) function h = (_, as_token, λ more vs. then (member_next l scope q p more vs) (ahead (ahead (ahead same))))
core_before (g.named (g.applied p q)) j h = (_, as_token, λ more vs. then (member_path p refl more vs) (ahead (ahead (then (types_comes q (refl, refl, refl) refl refl refl [] _ _) (ahead (ahead (ahead same)))))))

-- a part that takes a name, told apart or not
abbrev pub TakesName : Sort → List Symbol → Type 0
TakesName sort part = (begins sort i.DeclaredName ≡ Some (keeps part)) × ((id : Terminal) → Id id → begins sort (i.Token id) ≡ Some (keeps part))

name_taken : (sort : Sort) (part : List Symbol) → Plain sort → TakesName sort part → {id : Terminal} {k : Token} {f : Fed} → Id id → Declared id k f → (us : List Classified) (more : List Symbol) (vs : List Value)
    → Meets (At (Non sort ∷ more) vs (f ∷ read us)) (At (part ++ more) (name_of id k ∷ vs) (read us))
name_taken sort part simple h {id} {k} j as_token us more vs = put_fed sort (keeps part) simple (i.Token id) (name_of id k) (read us) (h.1 id j) more vs
name_taken sort part simple h {id} {k} j as_name us more vs = put_fed sort (keeps part) simple i.DeclaredName (name_of id k) (read us) h.0 more vs

no_marks_before : {id : Terminal} {k : Token} {f : Fed} → Id id → Declared id k f → (fs : List Fed) → FedPasses o.TypeMarks (f ∷ fs)
no_marks_before plain as_token fs = refl
no_marks_before function as_token fs = refl
no_marks_before plain as_name fs = refl
no_marks_before function as_name fs = refl

typed_core : (sort names : Sort) (part then_part : List Symbol) → Plain sort → Plain names → begins sort i.CoreType ≡ Some (keeps (Non o.TypeMarks ∷ Non names ∷ part)) → TakesName names then_part
    → {of : TypeName} {span : Span} {id : Terminal} {k : Token} (ts : List Classified) → Id id → (us : List Classified)
    → ((f : Fed) × Declared id k f × ((more : List Symbol) (vs : List Value) → Meets (At (Non o.TypeOrProperty ∷ more) vs (read ts)) (At more vs (fed i.CoreType (type_value of span) ∷ f ∷ read us)))) → (more : List Symbol) (vs : List Value)
    → Meets (At (Non o.TypeOrProperty ∷ Non sort ∷ more) vs (read ts)) (At (then_part ++ (part ++ more)) (name_of id k ∷ type_value of span ∷ vs) (read us))
typed_core sort names part then_part simple plainly e n ts j us (f, d, p) more vs =
    then (p (Non sort ∷ more) vs) (then (put_fed sort (keeps (Non o.TypeMarks ∷ Non names ∷ part)) simple i.CoreType _ (f ∷ read us) e more vs)
    (then (pass_fed o.TypeMarks [] (λ a b c. refl) refl (f ∷ read us) (no_marks_before j d (read us)) _ _) (name_taken names then_part plainly n j d us _ _)))

-- a member's type and its name
pub member_type : (sort names : Sort) (part then_part : List Symbol) → Plain sort → Plain names → begins sort i.CoreType ≡ Some (keeps (Non o.TypeMarks ∷ Non names ∷ part)) → TakesName names then_part
    → {of : TypeName} {span : Span} {id : Terminal} {k : Token} {ts us : List Classified} → ReadsType of span ts (at id k ∷ us) → Id id → Passes o.PropertyTypeOrName us → (more : List Symbol) (vs : List Value)
    → Meets (At (Non o.TypeOrProperty ∷ Non sort ∷ more) vs (read ts)) (At (then_part ++ (part ++ more)) (name_of id k ∷ type_value of span ∷ vs) (read us))
member_type sort names part then_part simple plainly e n {k} {ts} {us} (g.core p) j h more vs = typed_core sort names part then_part simple plainly e n ts j us (core_before p j h) more vs
member_type sort names part then_part simple plainly e n {id} {k} {us} (g.handle p) j h more vs =
    then (member_core p (refl, refl, refl) refl (Non sort ∷ more) vs) (then (put_fed sort (keeps (Non o.TypeMarks ∷ Non names ∷ part)) simple i.CoreType _ _ e more vs)
    (ahead (then (pass o.HandleRest (Act a.MakeHandle ∷ []) (λ a b c. refl) refl (at id k ∷ us) (id_ends id k us j).0.2 _ _) (ahead (name_taken names then_part plainly n j as_token us _ _)))))
member_type sort names part then_part simple plainly e n {us} (g.tracking p) j h more vs =
    then (member_core p (refl, refl, refl) refl (Non sort ∷ more) vs) (then (put_fed sort (keeps (Non o.TypeMarks ∷ Non names ∷ part)) simple i.CoreType _ _ e more vs) (ahead (ahead (name_taken names then_part plainly n j as_token us _ _))))
member_type sort names part then_part simple plainly e n {us} (g.handle_tracking p) j h more vs =
    then (member_core p (refl, refl, refl) refl (Non sort ∷ more) vs) (then (put_fed sort (keeps (Non o.TypeMarks ∷ Non names ∷ part)) simple i.CoreType _ _ e more vs) (ahead (ahead (ahead (name_taken names then_part plainly n j as_token us _ _)))))

property_word : (ts : List Classified) → StartsFundamental ts → LooksAt o.PropertyOrType (Non o.Type ∷ Act a.MakePropertyType ∷ Back i.PropertyType ∷ []) ts
property_word [] h = absurd h
property_word (at (t.Word word) k ∷ rest) h = rw h refl
property_word (at _ k ∷ rest) h = absurd h

property_path : {path : List Identifier} {word : ContextualWord} {k : Token} {ts rest : List Classified} → ReadsPath path ts (at (t.Name n.Type word) k ∷ rest) → (more : List Symbol) (vs : List Value)
    → Meets (At (Non o.PropertyOrType ∷ more) vs (read ts)) (At (Non o.TemplateArguments ∷ Non o.TypeMarks ∷ Act a.MakePropertyType ∷ Back i.PropertyType ∷ more) (named_value path (identifier k) ∷ vs) (read rest))
property_path g.none more vs = ahead (ahead (ahead (ahead same)))
property_path (g.next {k = l} plain p) more vs = ahead (ahead (ahead (ahead (path_comes p (identifier l ∷ []) _ vs))))
property_path (g.next {k = l} function p) more vs = ahead (ahead (ahead (ahead (path_comes p (identifier l ∷ []) _ vs))))

property_core : (more : List Symbol) (vs : List Value) (ts : List Classified) (core : TypeName) (inner : Span) (us : List Classified) → ReadsCore core inner ts us → CoreEnds us
    → Meets (At (Non o.PropertyOrType ∷ more) vs (read ts)) (At (Non o.TypeMarks ∷ Act a.MakePropertyType ∷ Back i.PropertyType ∷ more) (type_value core inner ∷ vs) (read us))
property_core more vs ts core inner us (g.fundamental p q) h =
    then (look o.PropertyOrType (Non o.Type ∷ Act a.MakePropertyType ∷ Back i.PropertyType ∷ []) (λ a b c. refl) ts (property_word ts (starts_fundamental p q)) more vs) (core_comes (g.fundamental p q) h _ _)
property_core more vs ts core inner us (g.named p) h = named_by (Non o.PropertyOrType ∷ more) (Non o.TypeMarks ∷ Act a.MakePropertyType ∷ Back i.PropertyType ∷ more) vs ts (λ path word k rest p. property_path p more vs) p h.2

typed_property : {of : TypeName} {span : Span} {us rest : List Classified} → ReadsType of span us rest → TypeEnds rest → (more : List Symbol) (vs : List Value)
    → Meets (At (Non o.PropertyOrType ∷ more) vs (read us)) (At (Act a.MakePropertyType ∷ Back i.PropertyType ∷ more) (type_value of span ∷ vs) (read rest))
typed_property {us} p h more vs = marks_come p h (Non o.PropertyOrType ∷ more) (Act a.MakePropertyType ∷ Back i.PropertyType ∷ more) vs (λ core inner xs p j. property_core more vs us core inner xs p j)

-- the property's type behind the word
pub property_type : {of : TypeName} {span : Span} {us rest : List Classified} → ReadsType of span us rest → TypeEnds rest → (kind : NameKind) (k : Token) (more : List Symbol) (vs : List Value)
    → Meets (At (Non o.TypeOrProperty ∷ more) vs (read (at (t.Name kind c.Property) k ∷ us))) (At more vs (fed i.PropertyType (v.PropertyType (record { tree = of; span = k.span })) ∷ read rest))
property_type {us} p h n.Plain k more vs = ahead (then (pass o.PropertyOrNamespace (Non o.Type ∷ Act a.MakePropertyType ∷ Back i.PropertyType ∷ []) (λ a b c. refl) refl us (type_facts p).5 _ _) (then (type_comes p h _ _) (ahead (ahead same))))
property_type {us} p h n.Function k more vs = ahead (then (pass o.PropertyOrNamespace (Non o.Type ∷ Act a.MakePropertyType ∷ Back i.PropertyType ∷ []) (λ a b c. refl) refl us (type_facts p).5 _ _) (then (type_comes p h _ _) (ahead (ahead same))))
property_type {us} p h n.Type k more vs = ahead (then (typed_property p h more _) (ahead (ahead same)))

-- Each spelling of a member leads to it.
use Rattle.std.proofs.Common.{◌≡◌, sym, ap, refl, ℕ, List, [], ◌∷◌, ◌++◌, append_assoc, append-nil, arith}
use Rattle.std.specs.Prelude.{Some, Bool, true, false}
use Rattle.cc_base.specs.declared.text.Span.{Span}
use Rattle.cc_tree.specs.declared.token.Token.{Token}
use Rattle.cc_tree.specs.declared.terminal.Terminal.{Terminal}
use Rattle.cc_tree.specs.declared.terminal.Terminal.TheVariants as t
use Rattle.cc_tree.specs.declared.terminal.NameKind.TheVariants as n
use Rattle.cc_tree.specs.declared.terminal.ContextualWord.{ContextualWord}
use Rattle.cc_tree.specs.declared.terminal.ReservedWord.TheVariants as w
use Rattle.cc_tree.specs.declared.terminal.Sign.TheVariants as s
use Rattle.cc_tree.specs.declared.type_name.TypeName.{TypeName}
use Rattle.cc_tree.specs.declared.identifier.Identifier.{Identifier}
use Rattle.cc_tree.specs.Spans.{across, identifier}
use Rattle.cc_tree.specs.Terminals.{Classified, at, Id, plain, function}
use Rattle.cc_tree.specs.GrammarTypes as g
use Rattle.cc_tree.specs.GrammarTypes.{ReadsPath, ReadsType, ReadsCore, ReadsNamed, ReadsTypes, ReadsTypeArguments}
use Rattle.cc_table.specs.declared.symbols.Sort.TheVariants as o
use Rattle.cc_table.specs.declared.symbols.Action.TheVariants as a
use Rattle.cc_table.specs.declared.symbols.Input.TheVariants as i
use Rattle.cc_table.specs.declared.symbols.Symbol.{Symbol}
use Rattle.cc_table.specs.declared.symbols.Symbol.TheVariants.{Non, Act, Back}
use Rattle.cc_pushdown.specs.declared.value.Value.{Value}
use Rattle.cc_pushdown.specs.declared.value.Value.TheVariants as v
use Rattle.cc_pushdown.specs.Machine.{fed, At, begins, keeps}
use Rattle.cc_grammar_laws.specs.Read.{read, read_value, Passes}
use Rattle.cc_grammar_laws.proofs.Meets.{Meets, same, ahead, behind, then, with_values, pass, LooksAt, look}
use Rattle.cc_grammar_laws.proofs.CompleteTypes.{StartsFundamental, starts_fundamental, StartsName, named_starts, TypeEnds, type_comes}
use Rattle.cc_tree.specs.declared.terminal.NameKind.{NameKind}
use Rattle.cc_tree.specs.declared.terminal.ContextualWord.TheVariants as c
use Rattle.cc_tree.specs.declared.statement.Block.{Block}
use Rattle.cc_tree.specs.GrammarStatements as st
use Rattle.cc_tree.specs.GrammarStatements.{NoElse, NoLabel, ReadsDeclarator, ReadsDeclarators, ReadsLocal, ReadsLabel, ReadsLabels, ReadsForStart, ReadsOptional, ReadsCaught, ReadsBlock, ReadsStatements, ReadsStatement, ReadsCatches, ReadsSections}
use Rattle.cc_tree.specs.declared.member.Storage.{Storage}
use Rattle.cc_tree.specs.declared.member.Storage.TheVariants as storage
use Rattle.cc_tree.specs.declared.member.Member.{Member}
use Rattle.cc_tree.specs.declared.member.Member.TheVariants as m
use Rattle.cc_tree.specs.declared.member.PropertyName.{PropertyName}
use Rattle.cc_tree.specs.declared.member.Accessor.{Accessor}
use Rattle.cc_tree.specs.declared.member.Parameters.{Parameters}
use Rattle.cc_tree.specs.Terminals.{letters}
use Rattle.cc_tree.specs.GrammarMembers as y
use Rattle.cc_tree.specs.GrammarMembers.{ReadsParameter, ReadsParameterList, ReadsParameters, IsModifier, ReadsModifiers, IsAccessor, ReadsNamedFunction, ReadsNamedFunctions, ReadsOverridden, ReadsBody, ReadsAccessor, ReadsAccessors, ReadsInitializer, ReadsInitializerList, ReadsInitializers, ReadsIds, ReadsStorage, ReadsPropertyName, ReadsPropertyBody, IsAccess, ReadsMember, ReadsMembers}
use Rattle.cc_grammar_laws.proofs.Starts.{type_facts}
use Rattle.cc_grammar_laws.proofs.CompleteStatements.{block_comes}
use Rattle.std.specs.Str.{bytes_eq}
use Rattle.cc_pushdown.specs.declared.value.ClassHead.{ClassHead}
use Rattle.cc_grammar_laws.proofs.CompleteFunctions.{ParameterPart, parameters_come, tail_comes, accessor_comes, accessors_come, initializers_come}
use Rattle.std.proofs.lemmas.Slice.Eq.{bytes_eq-Decides}
use Rattle.cc_grammar_laws.proofs.CompleteStatements.{id_ends}
use Rattle.cc_grammar_laws.proofs.MemberTypes.{member_type, property_type}

abbrev StartsScope : List Classified → Type 0
StartsScope (at (t.Sign s.Scope) k ∷ us) = Unit {0}
StartsScope _ = ⊥

abbrev NoOwn : List Classified → Type 0
NoOwn us = Passes o.OwnTypeEnd us × Passes o.OwnPropertyTypeEnd us × Passes o.OwnPropertyNamespaceEnd us

-- how a type, or a property, begins in a class, so that its first name is no constructor's
abbrev MemberFirst : List Classified → Type 0
MemberFirst (at (t.Word word) k ∷ us) = Unit {0}
MemberFirst (at (t.Name n.Type word) k ∷ us) = NoOwn us
MemberFirst (at (t.Name n.Plain c.Property) k ∷ us) = NoOwn us
MemberFirst (at (t.Name n.Function c.Property) k ∷ us) = NoOwn us
MemberFirst (at (t.Name kind word) k ∷ us) = StartsScope us
MemberFirst _ = ⊥

abbrev inside : ClassHead → List Member → List Value → List Value
inside h ms vs = v.Members ms ∷ v.Head h ∷ vs

own_start : (b : Bool) (kind : NameKind) (word : ContextualWord) (k : Token) (us : List Classified) → MemberFirst (at (t.Name kind word) k ∷ us) → (h : ClassHead) (ms : List Member) (more : List Symbol) (vs : List Value)
    → bytes_eq (letters k.kind) h.name.name ≡ b
    → Meets (At (Non o.MemberStart ∷ more) (v.NoStorage ∷ inside h ms vs) (read (at (t.Name kind word) k ∷ us))) (At (Non o.TypeOrProperty ∷ Non o.MemberRest ∷ more) (v.NoStorage ∷ inside h ms vs) (read (at (t.Name kind word) k ∷ us)))
own_start false kind word k us f h ms more vs e = ahead (rw e same)
own_start true n.Type c.Property k us f h ms more vs e = ahead (rw e (then (pass o.OwnPropertyTypeEnd (Non o.PropertyOrType ∷ []) (λ a b c. refl) refl us f.1 _ _) (behind same)))
own_start true n.Type _ k us f h ms more vs e = ahead (rw e (then (pass o.OwnTypeEnd (Act a.StartPath ∷ Non o.TemplateArguments ∷ Back i.CoreType ∷ []) (λ a b c. refl) refl us f.0 _ _) (behind same)))
own_start true n.Plain c.Property k us f h ms more vs e = ahead (rw e (then (pass o.OwnPropertyNamespaceEnd (Non o.PropertyOrNamespace ∷ []) (λ a b c. refl) refl us f.2 _ _) (behind same)))
own_start true n.Function c.Property k us f h ms more vs e = ahead (rw e (then (pass o.OwnPropertyNamespaceEnd (Non o.PropertyOrNamespace ∷ []) (λ a b c. refl) refl us f.2 _ _) (behind same)))
own_start true n.Plain _ k [] f h ms more vs e = absurd f
own_start true n.Plain _ k (at (t.Sign s.Scope) scope ∷ us) f h ms more vs e = ahead (rw e (ahead (ahead (behind (behind (behind same))))))
own_start true n.Plain _ k (at _ scope ∷ us) f h ms more vs e = absurd f
own_start true n.Function _ k [] f h ms more vs e = absurd f
own_start true n.Function _ k (at (t.Sign s.Scope) scope ∷ us) f h ms more vs e = ahead (rw e (ahead (ahead (behind (behind (behind same))))))
own_start true n.Function _ k (at _ scope ∷ us) f h ms more vs e = absurd f

member_start : (ts : List Classified) → MemberFirst ts → (h : ClassHead) (ms : List Member) (more : List Symbol) (vs : List Value)
    → Meets (At (Non o.MemberStart ∷ more) (v.NoStorage ∷ inside h ms vs) (read ts)) (At (Non o.TypeOrProperty ∷ Non o.MemberRest ∷ more) (v.NoStorage ∷ inside h ms vs) (read ts))
member_start [] f h ms more vs = absurd f
member_start (at (t.Word word) k ∷ us) f h ms more vs = ahead same
member_start (at (t.Name kind word) k ∷ us) f h ms more vs = own_start (bytes_eq (letters k.kind) h.name.name) kind word k us f h ms more vs refl
member_start (at _ k ∷ us) f h ms more vs = absurd f

words_first : (ts : List Classified) → StartsFundamental ts → MemberFirst ts
words_first [] h = absurd h
words_first (at (t.Word word) k ∷ us) h = tt
words_first (at _ k ∷ us) h = absurd h

path_first : {path : List Identifier} {word : ContextualWord} {k : Token} {ts rest : List Classified} → ReadsPath path ts (at (t.Name n.Type word) k ∷ rest) → NoOwn rest → MemberFirst ts
path_first g.none h = h
path_first (g.next (plain {word = c.Property}) p) h = (refl, refl, refl)
path_first (g.next (plain {word = _}) p) h = tt
path_first (g.next (function {word = c.Property}) p) h = (refl, refl, refl)
path_first (g.next (function {word = _}) p) h = tt

core_member_first : {of : TypeName} {span : Span} {ts rest : List Classified} → ReadsCore of span ts rest → NoOwn rest → MemberFirst ts
core_member_first {ts} (g.fundamental p q) h = words_first ts (starts_fundamental p q)
core_member_first (g.named (g.alone p)) h = path_first p h
core_member_first (g.named (g.applied p q)) h = path_first p (refl, refl, refl)

id_no_own : (id : Terminal) (k : Token) (us : List Classified) → Id id → NoOwn (at id k ∷ us)
id_no_own _ k us plain = (refl, refl, refl)
id_no_own _ k us function = (refl, refl, refl)

type_member_first : {of : TypeName} {span : Span} {id : Terminal} {k : Token} {ts us : List Classified} → ReadsType of span ts (at id k ∷ us) → Id id → MemberFirst ts
type_member_first {id} {k} {us} (g.core p) j = core_member_first p (id_no_own id k us j)
type_member_first (g.handle p) j = core_member_first p (refl, refl, refl)
type_member_first (g.tracking p) j = core_member_first p (refl, refl, refl)
type_member_first (g.handle_tracking p) j = core_member_first p (refl, refl, refl)

words_no_own : (ts : List Classified) → StartsFundamental ts → NoOwn ts
words_no_own [] h = absurd h
words_no_own (at (t.Word word) k ∷ us) h = (refl, refl, refl)
words_no_own (at _ k ∷ us) h = absurd h

names_no_own : (ts : List Classified) → StartsName ts → NoOwn ts
names_no_own [] h = absurd h
names_no_own (at (t.Name kind word) k ∷ us) h = (refl, refl, refl)
names_no_own (at _ k ∷ us) h = absurd h

core_no_own : {of : TypeName} {span : Span} {ts rest : List Classified} → ReadsCore of span ts rest → NoOwn ts
core_no_own {ts} (g.fundamental p q) = words_no_own ts (starts_fundamental p q)
core_no_own {ts} (g.named p) = names_no_own ts (named_starts p)

type_no_own : {of : TypeName} {span : Span} {ts rest : List Classified} → ReadsType of span ts rest → NoOwn ts
type_no_own (g.core p) = core_no_own p
type_no_own (g.handle p) = core_no_own p
type_no_own (g.tracking p) = core_no_own p
type_no_own (g.handle_tracking p) = core_no_own p

property_first : (kind : NameKind) (k : Token) (us : List Classified) → NoOwn us → MemberFirst (at (t.Name kind c.Property) k ∷ us)
property_first n.Type k us h = h
property_first n.Plain k us h = h
property_first n.Function k us h = h

parameters_follow : {given : Parameters} {ts rest : List Classified} → ReadsParameters given ts rest → Passes o.PropertyTypeOrName ts
    × LooksAt o.FieldsOrFunction (ParameterPart (Act a.StartModifiers ∷ Non o.Modifiers ∷ Non o.Overriding ∷ Non o.Body ∷ Act a.MakeFunctionMember ∷ [])) ts
    × LooksAt o.OwnTypeEnd (Back i.ConstructorName ∷ []) ts × LooksAt o.OwnNamespaceEnd (Back i.ConstructorName ∷ []) ts
    × LooksAt o.OwnPropertyTypeEnd (Back i.ConstructorName ∷ []) ts × LooksAt o.OwnPropertyNamespaceEnd (Back i.ConstructorName ∷ []) ts
parameters_follow y.none = (refl, refl, refl, refl, refl, refl)
parameters_follow (y.some p) = (refl, refl, refl, refl, refl, refl)

id_taken : (id : Terminal) → Id id → begins o.MemberName (i.Token id) ≡ Some (keeps (Non o.FieldsOrFunction ∷ []))
id_taken _ plain = refl
id_taken _ function = refl

id_kept : (id : Terminal) → Id id → begins o.VirtualName (i.Token id) ≡ Some (keeps [])
id_kept _ plain = refl
id_kept _ function = refl

field_names : {names : List Identifier} {semicolon : Token} {ts rest : List Classified} → ReadsIds names ts (at (t.Sign s.Semicolon) semicolon ∷ rest) → (first : List Identifier) (more : List Symbol) (vs : List Value)
    → Meets (At (Non o.Identifier ∷ Act a.AddName ∷ Non o.FieldNames ∷ more) (v.Names first ∷ vs) (read ts)) (At more (v.Names (first ++ names) ∷ vs) (read (at (t.Sign s.Semicolon) semicolon ∷ rest)))
field_names (y.last plain) first more vs = ahead (ahead (ahead same))
field_names (y.last function) first more vs = ahead (ahead (ahead same))
field_names {semicolon} {rest} (y.more {names = others} {k} plain q) first more vs = ahead (ahead (ahead (with_values {ts = read (at (t.Sign s.Semicolon) semicolon ∷ rest)} (ap (λ q. v.Names q ∷ vs) (append_assoc first (identifier k ∷ []) others)) (field_names q (first ++ identifier k ∷ []) more vs))))
field_names {semicolon} {rest} (y.more {names = others} {k} function q) first more vs = ahead (ahead (ahead (with_values {ts = read (at (t.Sign s.Semicolon) semicolon ∷ rest)} (ap (λ q. v.Names q ∷ vs) (append_assoc first (identifier k ∷ []) others)) (field_names q (first ++ identifier k ∷ []) more vs))))

own_name : (k : Token) (h : ClassHead) → letters k.kind ≡ h.name.name → bytes_eq (letters k.kind) h.name.name ≡ true
own_name k h e = grind (bytes_eq-Decides (letters k.kind) h.name.name, e, arith)

own_constructor : (kind : NameKind) (word : ContextualWord) (k : Token) (h : ClassHead) → letters k.kind ≡ h.name.name → {given : Parameters} {ts rest : List Classified} → ReadsParameters given ts rest → (ms : List Member) (more : List Symbol) (vs : List Value)
    → Meets (At (Non o.MemberStart ∷ more) (v.NoStorage ∷ inside h ms vs) (read (at (t.Name kind word) k ∷ ts))) (At (Non o.MemberRest ∷ more) (v.NoStorage ∷ inside h ms vs) (fed i.ConstructorName (read_value (t.Name kind word) k.kind k.span) ∷ read ts))
own_constructor n.Type c.Property k h e {ts} p ms more vs = ahead (rw (own_name k h e) (then (look o.OwnPropertyTypeEnd (Back i.ConstructorName ∷ []) (λ a b c. refl) ts (parameters_follow p).4 _ _) (ahead same)))
own_constructor n.Type _ k h e {ts} p ms more vs = ahead (rw (own_name k h e) (then (look o.OwnTypeEnd (Back i.ConstructorName ∷ []) (λ a b c. refl) ts (parameters_follow p).2 _ _) (ahead same)))
own_constructor n.Plain c.Property k h e {ts} p ms more vs = ahead (rw (own_name k h e) (then (look o.OwnPropertyNamespaceEnd (Back i.ConstructorName ∷ []) (λ a b c. refl) ts (parameters_follow p).5 _ _) (ahead same)))
own_constructor n.Plain _ k h e {ts} p ms more vs = ahead (rw (own_name k h e) (then (look o.OwnNamespaceEnd (Back i.ConstructorName ∷ []) (λ a b c. refl) ts (parameters_follow p).3 _ _) (ahead same)))
own_constructor n.Function c.Property k h e {ts} p ms more vs = ahead (rw (own_name k h e) (then (look o.OwnPropertyNamespaceEnd (Back i.ConstructorName ∷ []) (λ a b c. refl) ts (parameters_follow p).5 _ _) (ahead same)))
own_constructor n.Function _ k h e {ts} p ms more vs = ahead (rw (own_name k h e) (then (look o.OwnNamespaceEnd (Back i.ConstructorName ∷ []) (λ a b c. refl) ts (parameters_follow p).3 _ _) (ahead same)))

property_name_ends : {one : PropertyName} {ts rest : List Classified} → ReadsPropertyName one ts rest → TypeEnds ts
property_name_ends (y.named {id} {k} {rest} j) = (id_ends id k rest j).0
property_name_ends (y.indexed p) = ((refl, refl, refl), refl, refl)

property_name_comes : {one : PropertyName} {ts rest : List Classified} → ReadsPropertyName one ts rest → (more : List Symbol) (vs : List Value) → Meets (At (Non o.PropertyName ∷ more) vs (read ts)) (At more (v.PropertyName one ∷ vs) (read rest))
property_name_comes (y.named plain) more vs = ahead (ahead same)
property_name_comes (y.named function) more vs = ahead (ahead same)
property_name_comes (y.indexed p) more vs = ahead (ahead (then (type_comes p ((refl, refl, refl), refl, refl) _ _) (ahead (ahead same))))

-- `static` or `virtual`, where one of them stands
data Kept : Storage → Span → Span → Value → Type 0 where
  kept_none : {span : Span} → Kept storage.Nothing span span v.NoStorage
  kept_static : {span first : Span} → Kept storage.Static first span (v.Mark (record { terminal = t.Word w.Static; span = first }))
  kept_virtual : {span first : Span} → Kept storage.Virtual first span (v.Mark (record { terminal = t.Word w.Virtual; span = first }))

property_body_comes : {items : List Accessor} {last : Span} {ts rest : List Classified} → ReadsPropertyBody items last ts rest → (storage_is : Storage) (first inner : Span) (kept : Value) → Kept storage_is first inner kept → (of : TypeName) (name : PropertyName) (more : List Symbol) (vs : List Value)
    → Meets (At (Non o.PropertyBody ∷ more) (v.PropertyName name ∷ v.PropertyType (record { tree = of; span = inner }) ∷ kept ∷ vs) (read ts)) (At more (v.Member (m.Property storage_is of name items (across first last)) ∷ vs) (read rest))
property_body_comes y.trivial _ first inner _ kept_none of name more vs = ahead (ahead same)
property_body_comes (y.accessors p q) _ first inner _ kept_none of name more vs = ahead (ahead (then (accessor_comes p _ _) (ahead (then (accessors_come q (_ ∷ []) _ _) (ahead (ahead same))))))
property_body_comes y.trivial _ first inner _ kept_static of name more vs = ahead (ahead same)
property_body_comes (y.accessors p q) _ first inner _ kept_static of name more vs = ahead (ahead (then (accessor_comes p _ _) (ahead (then (accessors_come q (_ ∷ []) _ _) (ahead (ahead same))))))
property_body_comes y.trivial _ first inner _ kept_virtual of name more vs = ahead (ahead same)
property_body_comes (y.accessors p q) _ first inner _ kept_virtual of name more vs = ahead (ahead (then (accessor_comes p _ _) (ahead (then (accessors_come q (_ ∷ []) _ _) (ahead (ahead same))))))

block_facts : {body : Block} {span : Span} {ts rest : List Classified} → ReadsBlock body span ts rest → Passes o.Initializers ts × Passes o.MoreInitializers ts
block_facts (st.block_ p) = (refl, refl)

pub member_comes : (h : ClassHead) {one : Member} {ts rest : List Classified} → ReadsMember h.name.name one ts rest → (ms : List Member) (more : List Symbol) (vs : List Value)
    → Meets (At (Non o.Member ∷ more) (inside h ms vs) (read ts)) (At more (v.Member one ∷ inside h ms vs) (read rest))
member_comes h (y.access_ y.public) ms more vs = ahead (ahead (ahead same))
member_comes h (y.access_ y.protected) ms more vs = ahead (ahead (ahead same))
member_comes h (y.access_ y.private) ms more vs = ahead (ahead (ahead same))
member_comes h {ts} (y.fields p (y.last plain)) ms more vs = then (pass o.Member (Act a.NoStorage ∷ Non o.MemberStart ∷ []) (λ a b c. refl) refl ts (type_facts p).2 more _) (ahead (then (member_start ts (type_member_first p plain) h ms more vs) (then (member_type o.MemberRest o.MemberName ([]) (Non o.FieldsOrFunction ∷ []) (λ a b c. refl) (λ a b c. refl) refl (refl, id_taken) p plain refl _ _) (ahead (ahead (ahead (ahead (ahead same))))))))
member_comes h {ts} (y.fields p (y.more {k} plain q)) ms more vs = then (pass o.Member (Act a.NoStorage ∷ Non o.MemberStart ∷ []) (λ a b c. refl) refl ts (type_facts p).2 more _) (ahead (then (member_start ts (type_member_first p plain) h ms more vs) (then (member_type o.MemberRest o.MemberName ([]) (Non o.FieldsOrFunction ∷ []) (λ a b c. refl) (λ a b c. refl) refl (refl, id_taken) p plain refl _ _) (ahead (ahead (ahead (then (field_names q (identifier k ∷ []) _ _) (ahead (ahead same)))))))))
member_comes h (y.static_fields p (y.last plain)) ms more vs = ahead (then (member_type o.StaticMember o.MemberName ([]) (Non o.FieldsOrFunction ∷ []) (λ a b c. refl) (λ a b c. refl) refl (refl, id_taken) p plain refl _ _) (ahead (ahead (ahead (ahead (ahead same))))))
member_comes h (y.static_fields p (y.more {k} plain q)) ms more vs = ahead (then (member_type o.StaticMember o.MemberName ([]) (Non o.FieldsOrFunction ∷ []) (λ a b c. refl) (λ a b c. refl) refl (refl, id_taken) p plain refl _ _) (ahead (ahead (ahead (then (field_names q (identifier k ∷ []) _ _) (ahead (ahead same)))))))
member_comes h {ts} (y.function {vs = qs} y.none p plain q r z l) ms more vs = then (pass o.Member (Act a.NoStorage ∷ Non o.MemberStart ∷ []) (λ a b c. refl) refl ts (type_facts p).2 more _) (ahead (then (member_start ts (type_member_first p plain) h ms more vs) (then (member_type o.MemberRest o.MemberName ([]) (Non o.FieldsOrFunction ∷ []) (λ a b c. refl) (λ a b c. refl) refl (refl, id_taken) p plain (parameters_follow q).0 _ _) (then (look o.FieldsOrFunction (ParameterPart (Act a.StartModifiers ∷ Non o.Modifiers ∷ Non o.Overriding ∷ Non o.Body ∷ Act a.MakeFunctionMember ∷ [])) (λ a b c. refl) qs (parameters_follow q).1 _ _) (then (parameters_come q _ _) (then (tail_comes r z l _ _) (ahead same)))))))
member_comes h (y.function {vs = qs} y.static p plain q r z l) ms more vs = ahead (then (member_type o.StaticMember o.MemberName ([]) (Non o.FieldsOrFunction ∷ []) (λ a b c. refl) (λ a b c. refl) refl (refl, id_taken) p plain (parameters_follow q).0 _ _) (then (look o.FieldsOrFunction (ParameterPart (Act a.StartModifiers ∷ Non o.Modifiers ∷ Non o.Overriding ∷ Non o.Body ∷ Act a.MakeFunctionMember ∷ [])) (λ a b c. refl) qs (parameters_follow q).1 _ _) (then (parameters_come q _ _) (then (tail_comes r z l _ _) (ahead same)))))
member_comes h (y.function {us = xs} y.virtual p plain q r z l) ms more vs = ahead (then (pass o.VirtualStart (Non o.TypeOrProperty ∷ Non o.VirtualMember ∷ []) (λ a b c. refl) refl xs (type_facts p).4 _ _) (then (member_type o.VirtualMember o.VirtualName (ParameterPart (Act a.StartModifiers ∷ Non o.Modifiers ∷ Non o.Overriding ∷ Non o.Body ∷ Act a.MakeFunctionMember ∷ [])) ([]) (λ a b c. refl) (λ a b c. refl) refl (refl, id_kept) p plain (parameters_follow q).0 _ _) (then (parameters_come q _ _) (then (tail_comes r z l _ _) (ahead same)))))
member_comes h {ts} (y.fields p (y.last function)) ms more vs = then (pass o.Member (Act a.NoStorage ∷ Non o.MemberStart ∷ []) (λ a b c. refl) refl ts (type_facts p).2 more _) (ahead (then (member_start ts (type_member_first p function) h ms more vs) (then (member_type o.MemberRest o.MemberName ([]) (Non o.FieldsOrFunction ∷ []) (λ a b c. refl) (λ a b c. refl) refl (refl, id_taken) p function refl _ _) (ahead (ahead (ahead (ahead (ahead same))))))))
member_comes h {ts} (y.fields p (y.more {k} function q)) ms more vs = then (pass o.Member (Act a.NoStorage ∷ Non o.MemberStart ∷ []) (λ a b c. refl) refl ts (type_facts p).2 more _) (ahead (then (member_start ts (type_member_first p function) h ms more vs) (then (member_type o.MemberRest o.MemberName ([]) (Non o.FieldsOrFunction ∷ []) (λ a b c. refl) (λ a b c. refl) refl (refl, id_taken) p function refl _ _) (ahead (ahead (ahead (then (field_names q (identifier k ∷ []) _ _) (ahead (ahead same)))))))))
member_comes h (y.static_fields p (y.last function)) ms more vs = ahead (then (member_type o.StaticMember o.MemberName ([]) (Non o.FieldsOrFunction ∷ []) (λ a b c. refl) (λ a b c. refl) refl (refl, id_taken) p function refl _ _) (ahead (ahead (ahead (ahead (ahead same))))))
member_comes h (y.static_fields p (y.more {k} function q)) ms more vs = ahead (then (member_type o.StaticMember o.MemberName ([]) (Non o.FieldsOrFunction ∷ []) (λ a b c. refl) (λ a b c. refl) refl (refl, id_taken) p function refl _ _) (ahead (ahead (ahead (then (field_names q (identifier k ∷ []) _ _) (ahead (ahead same)))))))
member_comes h {ts} (y.function {vs = qs} y.none p function q r z l) ms more vs = then (pass o.Member (Act a.NoStorage ∷ Non o.MemberStart ∷ []) (λ a b c. refl) refl ts (type_facts p).2 more _) (ahead (then (member_start ts (type_member_first p function) h ms more vs) (then (member_type o.MemberRest o.MemberName ([]) (Non o.FieldsOrFunction ∷ []) (λ a b c. refl) (λ a b c. refl) refl (refl, id_taken) p function (parameters_follow q).0 _ _) (then (look o.FieldsOrFunction (ParameterPart (Act a.StartModifiers ∷ Non o.Modifiers ∷ Non o.Overriding ∷ Non o.Body ∷ Act a.MakeFunctionMember ∷ [])) (λ a b c. refl) qs (parameters_follow q).1 _ _) (then (parameters_come q _ _) (then (tail_comes r z l _ _) (ahead same)))))))
member_comes h (y.function {vs = qs} y.static p function q r z l) ms more vs = ahead (then (member_type o.StaticMember o.MemberName ([]) (Non o.FieldsOrFunction ∷ []) (λ a b c. refl) (λ a b c. refl) refl (refl, id_taken) p function (parameters_follow q).0 _ _) (then (look o.FieldsOrFunction (ParameterPart (Act a.StartModifiers ∷ Non o.Modifiers ∷ Non o.Overriding ∷ Non o.Body ∷ Act a.MakeFunctionMember ∷ [])) (λ a b c. refl) qs (parameters_follow q).1 _ _) (then (parameters_come q _ _) (then (tail_comes r z l _ _) (ahead same)))))
member_comes h (y.function {us = xs} y.virtual p function q r z l) ms more vs = ahead (then (pass o.VirtualStart (Non o.TypeOrProperty ∷ Non o.VirtualMember ∷ []) (λ a b c. refl) refl xs (type_facts p).4 _ _) (then (member_type o.VirtualMember o.VirtualName (ParameterPart (Act a.StartModifiers ∷ Non o.Modifiers ∷ Non o.Overriding ∷ Non o.Body ∷ Act a.MakeFunctionMember ∷ [])) ([]) (λ a b c. refl) (λ a b c. refl) refl (refl, id_kept) p function (parameters_follow q).0 _ _) (then (parameters_come q _ _) (then (tail_comes r z l _ _) (ahead same)))))
member_comes h (y.constructor {kind} {word} {k} e p q r) ms more vs =
    ahead (ahead (then (own_constructor kind word k h e p ms more vs) (ahead (then (parameters_come p _ _) (then (initializers_come q (block_facts r).0 (block_facts r).1 _ _) (then (block_comes r _ _) (ahead same)))))))
member_comes h (y.destructor {k} e p) ms more vs = ahead (ahead (ahead (ahead (rw (own_name k h e) (ahead (ahead (then (block_comes p _ _) (ahead same))))))))
member_comes h (y.virtual_destructor {k} e p) ms more vs = ahead (ahead (ahead (rw (own_name k h e) (ahead (ahead (then (block_comes p _ _) (ahead same)))))))
member_comes h (y.finaliser {k} e p) ms more vs = ahead (ahead (ahead (ahead (rw (own_name k h e) (ahead (ahead (then (block_comes p _ _) (ahead same))))))))
member_comes h (y.property {kind} {of} {name} {k} {us} y.none p q r) ms more vs =
    ahead (ahead (then (member_start (at (t.Name kind c.Property) k ∷ us) (property_first kind k us (type_no_own p)) h ms more vs) (then (property_type p (property_name_ends q) kind k _ _) (ahead (then (property_name_comes q _ _) (property_body_comes r _ _ _ _ kept_none of name more _))))))
member_comes h (y.property {kind} {of} {name} {k} y.static p q r) ms more vs =
    ahead (then (property_type p (property_name_ends q) kind k _ _) (ahead (then (property_name_comes q _ _) (property_body_comes r _ _ _ _ kept_static of name more _))))
member_comes h (y.property {kind} {of} {name} {k} y.virtual p q r) ms more vs =
    ahead (ahead (then (property_type p (property_name_ends q) kind k _ _) (ahead (then (property_name_comes q _ _) (property_body_comes r _ _ _ _ kept_virtual of name more _)))))

member_passes : {own : List ℕ} {one : Member} {ts rest : List Classified} → ReadsMember own one ts rest → Passes o.Members ts
member_passes (y.access_ y.public) = refl
member_passes (y.access_ y.protected) = refl
member_passes (y.access_ y.private) = refl
member_passes (y.fields p q) = (type_facts p).3
member_passes (y.static_fields p q) = refl
member_passes (y.function y.none p j q r z l) = (type_facts p).3
member_passes (y.function y.static p j q r z l) = refl
member_passes (y.function y.virtual p j q r z l) = refl
member_passes (y.constructor e p q r) = refl
member_passes (y.destructor e p) = refl
member_passes (y.virtual_destructor e p) = refl
member_passes (y.finaliser e p) = refl
member_passes (y.property y.none p q r) = refl
member_passes (y.property y.static p q r) = refl
member_passes (y.property y.virtual p q r) = refl

pub members_come : (h : ClassHead) {items : List Member} {close : Token} {ts rest : List Classified} → ReadsMembers h.name.name items ts (at (t.Sign s.CloseBrace) close ∷ rest) → (first : List Member) (more : List Symbol) (vs : List Value)
    → Meets (At (Non o.Members ∷ more) (inside h first vs) (read ts)) (At more (inside h (first ++ items) vs) (read (at (t.Sign s.CloseBrace) close ∷ rest)))
members_come h {close} {rest} y.none first more vs = with_values {ts = read (at (t.Sign s.CloseBrace) close ∷ rest)} (ap (λ q. inside h q vs) (sym (append-nil first))) (ahead same)
members_come h {close} {ts} {rest} (y.next {one} {members = others} p q) first more vs =
    then (pass o.Members (Non o.Member ∷ Act a.AddMember ∷ Non o.Members ∷ []) (λ a b c. refl) refl ts (member_passes p) _ _)
    (then (member_comes h p first _ vs) (ahead (with_values {ts = read (at (t.Sign s.CloseBrace) close ∷ rest)} (ap (λ q. inside h q vs) (append_assoc first (one ∷ []) others)) (members_come h q (first ++ one ∷ []) more vs))))

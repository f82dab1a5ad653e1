-- How long the parser may go on before it takes an input, and how many inputs it may put back.
use Rattle.std.specs.Prelude.{◌+◌, ℕ, List, [], ◌∷◌, Option, Some, None, Bool, true, false, ◌&&◌, ◌||◌, not, cond, leb, nat_lt, min}
use Rattle.cc_table.specs.declared.symbols.Sort.{Sort}
use Rattle.cc_table.specs.declared.symbols.Sort.TheVariants as o
use Rattle.cc_table.specs.declared.symbols.Symbol.{Symbol}
use Rattle.cc_table.specs.declared.symbols.Symbol.TheVariants.{Non, Act, Back}
use Rattle.cc_table.specs.declared.symbols.Input.{Input}
use Rattle.cc_table.specs.declared.symbols.Input.TheVariants as i
use Rattle.cc_table.specs.declared.symbols.Pattern.{Pattern}
use Rattle.cc_table.specs.declared.symbols.Pattern.TheVariants as p
use Rattle.cc_table.specs.declared.symbols.Take.TheVariants as k
use Rattle.cc_table.specs.declared.symbols.Take.{Take}
use Rattle.cc_table.specs.Choice.{Row}
use Rattle.cc_pushdown.specs.Machine.{Fed, fed}

-- whether a part may be nothing
abbrev pub passes : Sort → Bool
passes o.UnsignedRest = true
passes o.OptionalInt = true
passes o.TypeMarks = true
passes o.HandleRest = true
passes o.TemplateArguments = true
passes o.MoreTypes = true
passes o.AfterUnary = true
passes o.ConditionalRest = true
passes (o.BinaryRest level) = true
passes o.FunctionNameRest = true
passes o.StringsRest = true
passes o.SuffixRest = true
passes o.FunctionMemberRest = true
passes o.Arguments = true
passes o.MoreExpressions = true
passes o.NewTypeRest = true
passes o.NewArguments = true
passes o.NewElements = true
passes o.Statements = true
passes o.ElseRest = true
passes o.Sections = true
passes o.MoreLabels = true
passes o.SectionStatements = true
passes o.MoreCatches = true
passes o.CaughtName = true
passes o.DeclaratorRest = true
passes o.MoreDeclarators = true
passes o.Parameters = true
passes o.ParameterName = true
passes o.MoreParameters = true
passes o.Modifiers = true
passes o.Overriding = true
passes o.NamedAccessor = true
passes o.MoreNamedFunctions = true
passes o.Accessors = true
passes o.Initializers = true
passes o.MoreInitializers = true
passes o.FieldNames = true
passes o.Members = true
passes o.UnitRest = true
passes o.Outers = true
passes o.NamespaceNames = true
passes o.ClassModifiers = true
passes o.Bases = true
passes o.MoreBases = true
passes o.Enumerators = true
passes o.MoreEnumerators = true
passes o.EnumeratorRest = true
passes o.MoreTemplateParameters = true
passes _ = false

-- how many steps lead from a part to one that takes an input or is nothing
abbrev pub weight : Sort → ℕ
weight o.UnsignedRest = 2
weight o.Type = 2
weight o.HandleRest = 2
weight o.TemplateArguments = 2
weight o.TypeOrName = 2
weight o.Expression = 4
weight o.AfterUnary = 3
weight o.Unary = 3
weight o.FunctionNameRest = 2
weight o.AfterNameLess = 3
weight o.AfterParenthesis = 5
weight o.CastOrGroup = 5
weight o.FunctionMemberRest = 2
weight o.AfterMemberLess = 3
weight o.Arguments = 5
weight o.NewTypeRest = 4
weight o.AfterNewLess = 3
weight o.NewArguments = 2
weight o.NewElements = 2
weight o.Statement = 5
weight o.LocalOrExpression = 5
weight o.Statements = 6
weight o.ElseRest = 2
weight o.ForStart = 5
weight o.LocalOrExpressionStart = 5
weight o.OptionalExpression = 5
weight o.ForAdvance = 5
weight o.Sections = 3
weight o.MoreLabels = 2
weight o.SectionStatements = 6
weight o.TryRest = 2
weight o.MoreCatches = 2
weight o.Caught = 3
weight o.CaughtName = 2
weight o.DeclaratorRest = 2
weight o.DeclaratorValue = 5
weight o.Parameters = 3
weight o.ParameterName = 2
weight o.Overriding = 2
weight o.Overridden = 4
weight o.NamedFunction = 2
weight o.NamedAccessor = 2
weight o.Body = 2
weight o.Accessor = 4
weight o.Accessors = 5
weight o.Initializers = 2
weight o.Member = 5
weight o.VirtualStart = 3
weight o.MemberStart = 3
weight o.OwnTypeEnd = 4
weight o.OwnPropertyTypeEnd = 5
weight o.OwnPropertyNamespaceEnd = 4
weight o.TypeOrProperty = 2
weight o.PropertyOrType = 4
weight o.PropertyOrNamespace = 3
weight o.FieldsOrFunction = 4
weight o.Members = 6
weight o.UnitRest = 4
weight o.Outers = 4
weight o.Outer = 3
weight o.FunctionRest = 2
weight o.KeyOrType = 7
weight o.ForwardOrClass = 8
weight o.ClassRest = 7
weight o.Bases = 2
weight o.Base = 2
weight o.VisibleRest = 2
weight o.TemplateRest = 3
weight o.TemplateKeyOrType = 7
weight o.Enumerators = 2
weight o.EnumeratorRest = 2
weight _ = 1

-- how many steps it may go on before it takes an input or puts one back
abbrev pub visible : List Symbol → ℕ
visible [] = 0
visible (Act action ∷ more) = 1 + visible more
visible (Back input ∷ more) = 0
visible (Non sort ∷ more) = weight sort + cond (passes sort) (visible more) 0

-- whether a part may be nothing as a whole
abbrev pub through : List Symbol → Bool
through [] = true
through (Act action ∷ more) = through more
through (Back input ∷ more) = false
through (Non sort ∷ more) = passes sort && through more

-- what an input is worth: a token is worth more than what was put back
abbrev pub worth : Input → ℕ
worth (i.Token terminal) = 10
worth (i.Own kind word) = 10
worth i.TouchingGreater = 10
worth _ = 3

abbrev pub worth_row : Pattern → ℕ
worth_row p.CoreType = 3
worth_row p.OperandType = 3
worth_row p.QualifiedPlain = 3
worth_row p.QualifiedFunction = 3
worth_row p.PropertyType = 3
worth_row p.ConstructorName = 3
worth_row p.DeclaredName = 3
worth_row _ = 10

abbrev pub worth_rows : List Pattern → ℕ
worth_rows [] = 10
worth_rows (pattern ∷ patterns) = min (worth_row pattern) (worth_rows patterns)

-- what the inputs are worth that a part puts back
abbrev pub owes : Sort → ℕ
owes o.NameEnd = 4
owes o.FunctionNameEnd = 4
owes o.CoreEnd = 4
owes o.GreaterEnd = 4
owes o.FunctionNameRest = 2
owes o.AfterNameLess = 11
owes o.NameTypes = 11
owes o.FunctionMemberRest = 2
owes o.AfterMemberLess = 11
owes o.MemberTypes = 11
owes o.NewTypeRest = 2
owes o.AfterNewLess = 11
owes o.NewTypes = 11
owes o.OwnTypeEnd = 4
owes o.OwnNamespaceEnd = 4
owes o.OwnPropertyTypeEnd = 4
owes o.OwnPropertyNamespaceEnd = 4
owes o.PropertyOrType = 4
owes o.PropertyTypeOrName = 8
owes o.PropertyOrNamespace = 4
owes _ = 0

abbrev pub owed : List Symbol → ℕ
owed [] = 0
owed (Act action ∷ more) = owed more
owed (Back input ∷ more) = 1 + worth input + owed more
owed (Non sort ∷ more) = owes sort + owed more

-- what the token is worth to the rest that a part is about to take
abbrev pub credit_of : Sort → ℕ
credit_of o.Fundamental = 4
credit_of _ = 0

abbrev pub credit : List Symbol → ℕ
credit [] = 0
credit (Act action ∷ more) = 0
credit (Back input ∷ more) = 0
credit (Non sort ∷ more) = credit_of sort

-- what the inputs are worth that are looked at next
abbrev pub due : List Fed → ℕ
due [] = 0
due (fed input value ∷ fs) = worth input + due fs

-- a part that only looks at an input comes nearer to one that takes it, and owes no more
abbrev pub nearer : Sort → List Symbol → Bool
nearer sort part = nat_lt (visible part) (weight sort) && (not (through part) || passes sort) && leb (owed part + credit_of sort) (owes sort + credit part)

abbrev pub pays : Sort → List Symbol → ℕ → Bool
pays sort part worth = nat_lt (owed part + credit_of sort) (owes sort + worth)

abbrev pub row_falls : Sort → List Pattern → Take → List Symbol → Bool
row_falls sort on k.Look part = nearer sort part
row_falls sort on k.Drop part = pays sort part (worth_rows on)
row_falls sort on k.Keep part = pays sort part (worth_rows on)

abbrev pub rows_fall : Sort → List Row → Bool
rows_fall sort [] = true
rows_fall sort (one ∷ rows) = row_falls sort one.on one.take one.part && rows_fall sort rows

abbrev pub otherwise_falls : Sort → Option (List Symbol) → Bool
otherwise_falls sort None = true
otherwise_falls sort (Some part) = nearer sort part

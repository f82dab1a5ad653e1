-- The names among the values are names over the collected names.
use Rattle.std.proofs.Common.{◌≡◌, refl, List, [], ◌∷◌, map}
use Rattle.std.specs.Prelude.{ℕ, Option, Some, None}
use Rattle.cc_base.specs.declared.text.Span.{Span}
use Rattle.cc_tree.specs.declared.token.Token.{Token}
use Rattle.cc_tree.specs.declared.token.TokenKind.{TokenKind}
use Rattle.cc_tree.specs.declared.token.TokenKind.TheVariants as k
use Rattle.cc_tree.specs.declared.terminal.Terminal.{Terminal}
use Rattle.cc_tree.specs.declared.terminal.Terminal.TheVariants as t
use Rattle.cc_tree.specs.declared.terminal.NameKind.{NameKind}
use Rattle.cc_tree.specs.declared.terminal.ContextualWord.{ContextualWord}
use Rattle.cc_tree.specs.declared.terminal.ContextualWord.TheVariants as c
use Rattle.cc_tree.specs.Terminals.{Names, classify, terminal, name_kind}
use Rattle.cc_table.specs.declared.symbols.Sort.{Sort}
use Rattle.cc_table.specs.declared.symbols.Action.{Action}
use Rattle.cc_table.specs.declared.symbols.Action.TheVariants as a
use Rattle.cc_table.specs.declared.symbols.Input.{Input}
use Rattle.cc_table.specs.declared.symbols.Symbol.{Symbol}
use Rattle.cc_table.specs.declared.symbols.Symbol.TheVariants.{Non, Act, Back}
use Rattle.cc_table.specs.Table.{otherwise}
use Rattle.cc_pushdown.specs.declared.value.Value.{Value}
use Rattle.cc_pushdown.specs.declared.value.Value.TheVariants as v
use Rattle.cc_pushdown.specs.Values.{below, top, top_head, top_name}
use Rattle.cc_pushdown.specs.Build.{build}
use Rattle.cc_pushdown.specs.Machine.{Fed, fed, feed, value_of, Config, At, Bad, Done, Taken, looks, drops, keeps, joins, begins, seen, lack, put, step, Comes, here, on, start}

module _ (names : Names) where
  -- The word is a name.
  abbrev pub GoodName : List ℕ → Type 0
  GoodName word = (kind : NameKind) × (contextual : ContextualWord) × (terminal names (k.Word word) ≡ t.Name kind contextual)

  abbrev pub GoodValue : Value → Type 0
  GoodValue (v.Name one) = GoodName one.identifier.name
  GoodValue (v.Head one) = GoodName one.name.name
  GoodValue _ = Unit {0}

  abbrev pub Good : List Value → Type 0
  Good [] = Unit {0}
  Good (value ∷ vs) = GoodValue value × Good vs

  abbrev pub GoodFed : List Fed → Type 0
  GoodFed [] = Unit {0}
  GoodFed (fed input value ∷ fs) = GoodValue value × GoodFed fs

  abbrev pub GoodConfig : Config → Type 0
  GoodConfig (At more vs fs) = Good vs × GoodFed fs
  GoodConfig _ = Unit {0}

  no_letters : GoodName []
  no_letters = (name_kind names [], c.Nothing, refl)

  pub good_below : (vs : List Value) → Good vs → Good (below vs)
  good_below [] g = tt
  good_below (value ∷ vs) g = g.1

  good_top : (vs : List Value) → Good vs → GoodValue (top vs)
  good_top [] g = tt
  good_top (value ∷ vs) g = g.0

  good_name : (vs : List Value) → Good vs → GoodName (top_name vs).identifier.name
  good_name [] g = no_letters
  good_name (v.Name one ∷ vs) g = g.0
  good_name (_ ∷ vs) g = no_letters

  pub good_head : (vs : List Value) → Good vs → GoodName (top_head vs).name.name
  good_head [] g = no_letters
  good_head (v.Head one ∷ vs) g = g.0
  good_head (_ ∷ vs) g = no_letters

  good_build : (action : Action) (vs : List Value) → Good vs → Good (build action vs)
  good_build a.JoinMarks vs g = (tt, (good_below (below vs) (good_below vs g)))
  good_build (a.Fundamental of) vs g = (tt, (good_below vs g))
  good_build a.StartPath vs g = (tt, (good_below vs g))
  good_build a.AddToPath vs g = (tt, (good_below vs g))
  good_build a.EndPath vs g = (tt, (good_below (below vs) (good_below vs g)))
  good_build a.MakeNamed vs g = (tt, (good_below vs g))
  good_build a.MakeApplied vs g = (tt, (good_below (below (below (below vs))) (good_below (below (below vs)) (good_below (below vs) (good_below vs g)))))
  good_build a.MakeHandle vs g = (tt, (good_below (below vs) (good_below vs g)))
  good_build a.MakeTracking vs g = (tt, (good_below (below vs) (good_below vs g)))
  good_build a.MakeHandleTracking vs g = (tt, (good_below (below (below vs)) (good_below (below vs) (good_below vs g))))
  good_build a.StartTypes vs g = (tt, g)
  good_build a.AddType vs g = (tt, (good_below (below vs) (good_below vs g)))
  good_build a.FirstType vs g = (tt, (good_below vs g))
  good_build a.MakeAssignment vs g = (tt, (good_below (below (below vs)) (good_below (below vs) (good_below vs g))))
  good_build a.MakeConditional vs g = (tt, (good_below (below (below vs)) (good_below (below vs) (good_below vs g))))
  good_build a.MakeBinary vs g = (tt, (good_below (below (below vs)) (good_below (below vs) (good_below vs g))))
  good_build a.MakePrefix vs g = (tt, (good_below (below vs) (good_below vs g)))
  good_build a.MakeCast vs g = (tt, (good_below (below (below vs)) (good_below (below vs) (good_below vs g))))
  good_build a.MakeIndex vs g = (tt, (good_below (below (below vs)) (good_below (below vs) (good_below vs g))))
  good_build a.MakeCall vs g = (tt, (good_below (below (below vs)) (good_below (below vs) (good_below vs g))))
  good_build a.MakeMember vs g = (tt, (good_below (below (below vs)) (good_below (below vs) (good_below vs g))))
  good_build a.MakeMemberOf vs g = (tt, (good_below (below (below (below vs))) (good_below (below (below vs)) (good_below (below vs) (good_below vs g)))))
  good_build a.MakeFinaliserName vs g = (tt, (good_below (below (below vs)) (good_below (below vs) (good_below vs g))))
  good_build a.MakePostfix vs g = (tt, (good_below (below vs) (good_below vs g)))
  good_build a.MakeNumber vs g = (tt, (good_below vs g))
  good_build a.MakeCharacter vs g = (tt, (good_below vs g))
  good_build a.StartTexts vs g = (tt, (good_below vs g))
  good_build a.AddText vs g = (tt, (good_below (below vs) (good_below vs g)))
  good_build a.MakeStrings vs g = (tt, (good_below vs g))
  good_build a.MakeTrue vs g = (tt, (good_below vs g))
  good_build a.MakeFalse vs g = (tt, (good_below vs g))
  good_build a.MakeNullptr vs g = (tt, (good_below vs g))
  good_build a.MakeThis vs g = (tt, (good_below vs g))
  good_build a.StartExpressions vs g = (tt, g)
  good_build a.AddExpression vs g = (tt, (good_below (below vs) (good_below vs g)))
  good_build a.MakeArguments vs g = (tt, (good_below (below vs) (good_below vs g)))
  good_build a.MakeTypeArguments vs g = (tt, (good_below (below (below vs)) (good_below (below vs) (good_below vs g))))
  good_build a.MakeGroup vs g = (tt, (good_below (below (below vs)) (good_below (below vs) (good_below vs g))))
  good_build a.MakeName vs g = (tt, (good_below vs g))
  good_build a.MakeNameOf vs g = (tt, (good_below (below vs) (good_below vs g)))
  good_build a.MakeStaticMember vs g = (tt, (good_below (below vs) (good_below vs g)))
  good_build a.MakeConstruct vs g = (tt, (good_below (below (below vs)) (good_below (below vs) (good_below vs g))))
  good_build a.MakeNew vs g = (tt, (good_below (below vs) (good_below vs g)))
  good_build a.MakeNewWith vs g = (tt, (good_below (below (below (below vs))) (good_below (below (below vs)) (good_below (below vs) (good_below vs g)))))
  good_build a.MakeNewOf vs g = (tt, (good_below (below (below (below vs))) (good_below (below (below vs)) (good_below (below vs) (good_below vs g)))))
  good_build a.MakeNewWithOf vs g = (tt, (good_below (below (below (below (below (below vs))))) (good_below (below (below (below (below vs)))) (good_below (below (below (below vs))) (good_below (below (below vs)) (good_below (below vs) (good_below vs g)))))))
  good_build a.MakeNamedCast vs g = (tt, (good_below (below (below (below vs))) (good_below (below (below vs)) (good_below (below vs) (good_below vs g)))))
  good_build a.StartStatements vs g = (tt, g)
  good_build a.AddStatement vs g = (tt, (good_below (below vs) (good_below vs g)))
  good_build a.MakeBlock vs g = (tt, (good_below (below (below vs)) (good_below (below vs) (good_below vs g))))
  good_build a.MakeBlockStatement vs g = (tt, (good_below vs g))
  good_build a.MakeEmpty vs g = (tt, (good_below vs g))
  good_build a.MakeExpressionStatement vs g = (tt, (good_below (below vs) (good_below vs g)))
  good_build a.MakeDelete vs g = (tt, (good_below (below (below vs)) (good_below (below vs) (good_below vs g))))
  good_build a.MakeBreak vs g = (tt, (good_below (below vs) (good_below vs g)))
  good_build a.MakeContinue vs g = (tt, (good_below (below vs) (good_below vs g)))
  good_build a.MakeReturn vs g = (tt, (good_below (below vs) (good_below vs g)))
  good_build a.MakeThrow vs g = (tt, (good_below (below vs) (good_below vs g)))
  good_build a.NoExpression vs g = (tt, (good_below vs g))
  good_build a.SomeExpression vs g = (tt, (good_below (below vs) (good_below vs g)))
  good_build a.MakeIf vs g = (tt, (good_below (below (below vs)) (good_below (below vs) (good_below vs g))))
  good_build a.MakeIfElse vs g = (tt, (good_below (below (below (below vs))) (good_below (below (below vs)) (good_below (below vs) (good_below vs g)))))
  good_build a.StartSections vs g = (tt, g)
  good_build a.StartLabels vs g = (tt, g)
  good_build a.AddLabel vs g = (tt, (good_below (below vs) (good_below vs g)))
  good_build a.AddSection vs g = (tt, (good_below (below (below vs)) (good_below (below vs) (good_below vs g))))
  good_build a.MakeSwitch vs g = (tt, (good_below (below (below (below vs))) (good_below (below (below vs)) (good_below (below vs) (good_below vs g)))))
  good_build a.MakeCase vs g = (tt, (good_below (below (below vs)) (good_below (below vs) (good_below vs g))))
  good_build a.MakeDefault vs g = (tt, (good_below (below vs) (good_below vs g)))
  good_build a.MakeWhile vs g = (tt, (good_below (below (below vs)) (good_below (below vs) (good_below vs g))))
  good_build a.MakeDo vs g = (tt, (good_below (below (below (below vs))) (good_below (below (below vs)) (good_below (below vs) (good_below vs g)))))
  good_build a.StartNothing vs g = (tt, g)
  good_build a.StartLocal vs g = (tt, (good_below vs g))
  good_build a.StartExpression vs g = (tt, (good_below vs g))
  good_build a.MakeFor vs g = (tt, (good_below (below (below (below (below vs)))) (good_below (below (below (below vs))) (good_below (below (below vs)) (good_below (below vs) (good_below vs g))))))
  good_build a.MakeForEach vs g = (tt, (good_below (below (below (below (below vs)))) (good_below (below (below (below vs))) (good_below (below (below vs)) (good_below (below vs) (good_below vs g))))))
  good_build a.StartCatches vs g = (tt, g)
  good_build a.CatchAll vs g = (tt, (good_below vs g))
  good_build a.CatchTyped vs g = (tt, (good_below vs g))
  good_build a.CatchNamed vs g = (tt, (good_below (below vs) (good_below vs g)))
  good_build a.AddCatch vs g = (tt, (good_below (below (below vs)) (good_below (below vs) (good_below vs g))))
  good_build a.MakeTry vs g = (tt, (good_below (below (below vs)) (good_below (below vs) (good_below vs g))))
  good_build a.MakeTryFinally vs g = (tt, (good_below (below (below (below vs))) (good_below (below (below vs)) (good_below (below vs) (good_below vs g)))))
  good_build a.StartDeclarators vs g = (tt, g)
  good_build a.AddDeclarator vs g = (tt, (good_below (below vs) (good_below vs g)))
  good_build a.MakeDeclarator vs g = (tt, (good_below vs g))
  good_build a.MakeDeclaratorValue vs g = (tt, (good_below (below vs) (good_below vs g)))
  good_build a.MakeDeclaratorElements vs g = (tt, (good_below (below (below vs)) (good_below (below vs) (good_below vs g))))
  good_build a.MakeDeclaratorArguments vs g = (tt, (good_below (below (below vs)) (good_below (below vs) (good_below vs g))))
  good_build a.MakeLocal vs g = (tt, (good_below (below vs) (good_below vs g)))
  good_build a.MakeLocalStatement vs g = (tt, (good_below (below vs) (good_below vs g)))
  good_build a.StartParameters vs g = (tt, g)
  good_build a.AddParameter vs g = (tt, (good_below (below vs) (good_below vs g)))
  good_build a.AddNamedParameter vs g = (tt, (good_below (below (below vs)) (good_below (below vs) (good_below vs g))))
  good_build a.MakeParameters vs g = (tt, (good_below (below vs) (good_below vs g)))
  good_build a.StartModifiers vs g = (tt, g)
  good_build a.AddModifier vs g = (tt, (good_below (below vs) (good_below vs g)))
  good_build a.NotOverridden vs g = (tt, g)
  good_build a.MakePure vs g = (tt, (good_below vs g))
  good_build a.StartNamedFunctions vs g = (tt, g)
  good_build a.MakeNamedFunction vs g = (tt, (good_below (below vs) (good_below vs g)))
  good_build a.MakeNamedAccessor vs g = (tt, (good_below (below (below vs)) (good_below (below vs) (good_below vs g))))
  good_build a.AddNamedFunction vs g = (tt, (good_below (below vs) (good_below vs g)))
  good_build a.MakeOverridden vs g = (tt, (good_below vs g))
  good_build a.NoBody vs g = (tt, (good_below vs g))
  good_build a.SomeBody vs g = (tt, (good_below vs g))
  good_build a.NoStorage vs g = (tt, g)
  good_build a.StartInitializers vs g = (tt, g)
  good_build a.AddInitializer vs g = (tt, (good_below (below vs) (good_below vs g)))
  good_build a.MakeMemberInitializer vs g = (tt, (good_below (below (below vs)) (good_below (below vs) (good_below vs g))))
  good_build a.MakeBaseInitializer vs g = (tt, (good_below (below (below vs)) (good_below (below vs) (good_below vs g))))
  good_build a.FirstName vs g = (tt, (good_below vs g))
  good_build a.AddName vs g = (tt, (good_below (below vs) (good_below vs g)))
  good_build a.MakeAccess vs g = (tt, (good_below (below vs) (good_below vs g)))
  good_build a.MakeFields vs g = (tt, (good_below (below (below (below vs))) (good_below (below (below vs)) (good_below (below vs) (good_below vs g)))))
  good_build a.MakeFunctionMember vs g = (tt, (good_below (below (below (below (below (below (below vs)))))) (good_below (below (below (below (below (below vs))))) (good_below (below (below (below (below vs)))) (good_below (below (below (below vs))) (good_below (below (below vs)) (good_below (below vs) (good_below vs g))))))))
  good_build a.MakeConstructor vs g = (tt, (good_below (below (below (below (below vs)))) (good_below (below (below (below vs))) (good_below (below (below vs)) (good_below (below vs) (good_below vs g))))))
  good_build a.MakeDestructor vs g = (tt, (good_below (below (below (below vs))) (good_below (below (below vs)) (good_below (below vs) (good_below vs g)))))
  good_build a.MakeFinaliser vs g = (tt, (good_below (below (below (below vs))) (good_below (below (below vs)) (good_below (below vs) (good_below vs g)))))
  good_build a.StartMembers vs g = (tt, g)
  good_build a.AddMember vs g = (tt, (good_below (below vs) (good_below vs g)))
  good_build a.MakeAccessor vs g = (tt, (good_below (below (below (below (below (below (below vs)))))) (good_below (below (below (below (below (below vs))))) (good_below (below (below (below (below vs)))) (good_below (below (below (below vs))) (good_below (below (below vs)) (good_below (below vs) (good_below vs g))))))))
  good_build a.StartAccessors vs g = (tt, g)
  good_build a.AddAccessor vs g = (tt, (good_below (below vs) (good_below vs g)))
  good_build a.MakePropertyType vs g = (tt, (good_below (below vs) (good_below vs g)))
  good_build a.NameProperty vs g = (tt, (good_below vs g))
  good_build a.IndexProperty vs g = (tt, (good_below (below vs) (good_below vs g)))
  good_build a.MakeProperty vs g = (tt, (good_below (below (below (below (below vs)))) (good_below (below (below (below vs))) (good_below (below (below vs)) (good_below (below vs) (good_below vs g))))))
  good_build a.MakeTrivialProperty vs g = (tt, (good_below (below (below (below vs))) (good_below (below (below vs)) (good_below (below vs) (good_below vs g)))))
  good_build a.MakeKey vs g = (tt, (good_below (below vs) (good_below vs g)))
  good_build a.StartClassModifiers vs g = (tt, g)
  good_build a.AddClassModifier vs g = (tt, (good_below (below vs) (good_below vs g)))
  good_build a.StartBases vs g = (tt, g)
  good_build a.AddBase vs g = (tt, (good_below (below vs) (good_below vs g)))
  good_build a.MakeBase vs g = (tt, (good_below vs g))
  good_build a.MakePublicBase vs g = (tt, (good_below (below vs) (good_below vs g)))
  good_build a.MakeHead vs g = (good_name (below (below vs)) (good_below (below vs) (good_below vs g)), (good_below (below (below (below vs))) (good_below (below (below vs)) (good_below (below vs) (good_below vs g)))))
  good_build a.MakeClass vs g = (tt, (good_below (below (below vs)) (good_below (below vs) (good_below vs g))))
  good_build a.StartEnumerators vs g = (tt, g)
  good_build a.AddEnumerator vs g = (tt, (good_below (below vs) (good_below vs g)))
  good_build a.MakeEnumerator vs g = (tt, (good_below vs g))
  good_build a.MakeEnumeratorValue vs g = (tt, (good_below (below vs) (good_below vs g)))
  good_build a.MakeEnumeratorNegative vs g = (tt, (good_below (below (below vs)) (good_below (below vs) (good_below vs g))))
  good_build a.MakeEnumeration vs g = (tt, (good_below (below (below (below (below vs)))) (good_below (below (below (below vs))) (good_below (below (below vs)) (good_below (below vs) (good_below vs g))))))
  good_build a.MakeFunction vs g = (tt, (good_below (below (below (below vs))) (good_below (below (below vs)) (good_below (below vs) (good_below vs g)))))
  good_build a.StartTemplateParameters vs g = (tt, g)
  good_build a.MakeTemplateParameter vs g = (tt, (good_below (below vs) (good_below vs g)))
  good_build a.AddTemplateParameter vs g = (tt, (good_below (below vs) (good_below vs g)))
  good_build a.MakeTemplateClass vs g = (tt, (good_below (below (below vs)) (good_below (below vs) (good_below vs g))))
  good_build a.MakeTemplateFunction vs g = (tt, (good_below (below (below vs)) (good_below (below vs) (good_below vs g))))
  good_build a.MakeUsing vs g = (tt, (good_below (below (below vs)) (good_below (below vs) (good_below vs g))))
  good_build a.MakeNamespace vs g = (tt, (good_below (below (below (below vs))) (good_below (below (below vs)) (good_below (below vs) (good_below vs g)))))
  good_build a.MakeOuterClass vs g = (tt, (good_below vs g))
  good_build a.MakeOuterEnumeration vs g = (tt, (good_below vs g))
  good_build a.MakeVisibleClass vs g = (tt, (good_below (below vs) (good_below vs g)))
  good_build a.MakeVisibleEnumeration vs g = (tt, (good_below (below vs) (good_below vs g)))
  good_build a.MakeForward vs g = (tt, (good_below (below (below vs)) (good_below (below vs) (good_below vs g))))
  good_build a.MakeOuterTemplate vs g = (tt, (good_below vs g))
  good_build a.MakeOuterFunction vs g = (tt, (good_below vs g))
  good_build a.StartOuters vs g = (tt, g)
  good_build a.AddOuter vs g = (tt, (good_below (below vs) (good_below vs g)))
  good_build a.MakeUnit vs g = (tt, (good_below vs g))

  lack_good : (part : Option (List Symbol)) (more : List Symbol) (vs : List Value) (fs : List Fed) → Good vs → GoodFed fs → GoodConfig (lack part more vs fs)
  lack_good None more vs fs g h = tt
  lack_good (Some part) more vs fs g h = (g, h)

  put_good : (of : Option Taken) (sort : Sort) (more : List Symbol) (vs : List Value) (input : Input) (value : Value) (fs : List Fed) → Good vs → GoodFed (fed input value ∷ fs) → GoodConfig (put of sort more vs input value fs)
  put_good None sort more vs input value fs g h = lack_good (otherwise sort) more vs (fed input value ∷ fs) g h
  put_good (Some (looks part)) sort more vs input value fs g h = (g, h)
  put_good (Some (drops part)) sort more vs input value fs g h = (g, h.1)
  put_good (Some (keeps part)) sort more vs input value fs g h = ((h.0, g), h.1)
  put_good (Some (joins operator part)) sort more vs input value fs g h = ((tt, g), h.1)

  step_good : (c : Config) → GoodConfig c → GoodConfig (step c)
  step_good (At [] vs []) g = tt
  step_good (At [] vs (one ∷ fs)) g = tt
  step_good (At (Act action ∷ more) vs fs) g = (good_build action vs g.0, g.1)
  step_good (At (Back input ∷ more) vs fs) g = (good_below vs g.0, (good_top vs g.0, g.1))
  step_good (At (Non sort ∷ more) vs []) g = lack_good (otherwise sort) more vs [] g.0 tt
  step_good (At (Non sort ∷ more) vs (fed input value ∷ fs)) g = put_good (begins sort (seen sort vs input value)) sort more vs input value fs g.0 g.1
  step_good (Bad fs) g = tt
  step_good (Done vs) g = tt

  pub comes_good : {c d : Config} → Comes c d → GoodConfig c → GoodConfig d
  comes_good here g = g
  comes_good {c = c} (on p) g = comes_good p (step_good c g)

  good_value : (kind : TokenKind) (span : Span) (found : Terminal) → terminal names kind ≡ found → GoodValue (value_of found kind span)
  good_value (k.Word word) span (t.Name kind contextual) e = (kind, contextual, e)
  good_value (k.Word word) span _ e = tt
  good_value (k.Number value suffix radix) span (t.Name kind contextual) e = tt
  good_value (k.Number value suffix radix) span _ e = tt
  good_value (k.Character unit) span (t.Name kind contextual) e = tt
  good_value (k.Character unit) span _ e = tt
  good_value (k.Literal text) span (t.Name kind contextual) e = tt
  good_value (k.Literal text) span _ e = tt
  good_value (k.Sign n) span (t.Name kind contextual) e = tt
  good_value (k.Sign n) span _ e = tt

  good_fed : (tokens : List Token) → GoodFed (map feed (classify names tokens))
  good_fed [] = tt
  good_fed (one ∷ tokens) = (good_value one.kind one.span (terminal names one.kind) refl, good_fed tokens)

  pub start_good : (tokens : List Token) → GoodConfig (start (classify names tokens))
  start_good tokens = (tt, good_fed tokens)

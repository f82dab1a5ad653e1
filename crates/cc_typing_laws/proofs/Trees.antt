-- What the statements of a tree add to their scopes is sound.
use Rattle.std.proofs.Common.{◌≡◌, List, [], ◌∷◌, map, Some, None, sym, subst}
use Rattle.std.specs.Prelude.{⊤}
use Rattle.cc_tree.specs.declared.statement.Block.{Block, roll-Block, fold-roll-Block, map-Block}
use Rattle.cc_tree.specs.declared.statement.Catch.{Catch, fold-Catch}
use Rattle.cc_tree.specs.declared.statement.Section.{Section, roll-Section, fold-roll-Section, map-Section}
use Rattle.cc_tree.specs.declared.statement.Statement.{Statement, Statement-F, roll-Statement, fold-roll-Statement, map-Statement}
use Rattle.cc_tree.specs.declared.statement.Block.{ind-Block}
use Rattle.cc_tree.specs.declared.statement.Statement.TheOpen as s
use Rattle.cc_core.specs.declared.types.ClassInfo.{ClassInfo}
use Rattle.cc_operations.specs.declared.source.Source.{Source}
use Rattle.cc_operations.specs.Choosing.{Pick, Chooses}
use Rattle.cc_statements.specs.Steps.{Part, Branch, statement_layer, block_layer, catch_layer, section_layer, statement_part, block_part, branch_of}
use Rattle.cc_terms.specs.Resolving.{Finds}
use Rattle.cc_typing_laws.proofs.Calls.{FitsSource}
use Rattle.cc_typing_laws.proofs.Made.{IsGood, good_none, row_good}
use Rattle.cc_typing_laws.proofs.Declarations.{declaration_good}
use Rattle.cc_typing_laws.proofs.Switches.{IsGoodBranch, switch_good}
use Rattle.cc_typing_laws.proofs.Statements.{break_good, continue_good, empty_good, block_alone, done_good, if_good, while_good, do_good, for_good, return_good}
use Rattle.cc_typing_laws.proofs.Lists.{Each}

module _ (classes : List ClassInfo) (pick : Pick) (chooses : Chooses classes pick) (finds : Finds) (source : Source) (fits_source : FitsSource classes source.functions) where
  abbrev IsGoodStatement : Statement → Type 0
  IsGoodStatement x = IsGood classes (statement_part pick finds source x)

  abbrev IsGoodBlock : Block → Type 0
  IsGoodBlock x = IsGood classes (block_part pick finds source x)

  -- no statement that is built has a catch
  abbrev IsAny : Catch → Type 0
  IsAny x = ⊤

  abbrev IsGoodSection : Section → Type 0
  IsGoodSection x = IsGoodBranch classes (branch_of pick finds source x)

  -- trees, each with a proof beside it
  abbrev GoodStatement : Type 0
  GoodStatement = (x : Statement) × IsGoodStatement x

  abbrev GoodBlock : Type 0
  GoodBlock = (x : Block) × IsGoodBlock x

  abbrev AnyCatch : Type 0
  AnyCatch = (x : Catch) × IsAny x

  abbrev GoodSection : Type 0
  GoodSection = (x : Section) × IsGoodSection x

  abbrev part : Statement → Part
  part = statement_part pick finds source

  abbrev block : Block → Part
  block = block_part pick finds source

  abbrev caught : Catch → Part
  caught = fold-Catch Part Part Part Branch (statement_layer pick finds source) (block_layer pick finds source) (catch_layer pick finds source) (section_layer pick finds source)

  abbrev branch : Section → Branch
  branch = branch_of pick finds source

  abbrev bare_layer : Statement-F GoodStatement GoodBlock AnyCatch GoodSection → Statement-F Statement Block Catch Section
  bare_layer = map-Statement GoodStatement GoodBlock AnyCatch GoodSection Statement Block Catch Section (λ k. k.0) (λ k. k.0) (λ k. k.0) (λ k. k.0)

  abbrev made_layer : Statement-F Statement Block Catch Section → Statement-F Part Part Part Branch
  made_layer = map-Statement Statement Block Catch Section Part Part Part Branch part block caught branch

  each_part : (ys : List GoodStatement) → Each (IsGood classes) (map part (map (λ k. k.0) ys))
  each_part [] = tt
  each_part (y ∷ ys) = (y.1, each_part ys)

  each_branch : (ys : List GoodSection) → Each (IsGoodBranch classes) (map branch (map (λ k. k.0) ys))
  each_branch [] = tt
  each_branch (y ∷ ys) = (y.1, each_branch ys)

  layer_good : (y : Statement-F GoodStatement GoodBlock AnyCatch GoodSection) → IsGood classes (statement_layer pick finds source (made_layer (bare_layer y)))
  layer_good (s.Block one) stand frame = block_alone classes (block one.0) one.1 stand frame
  layer_good (s.Empty span) stand frame = empty_good classes stand frame
  layer_good (s.Local one span) stand frame = declaration_good classes pick chooses finds source fits_source one span stand frame
  layer_good (s.Expression x span) stand frame = done_good classes pick chooses finds source fits_source x stand frame
  layer_good (s.Delete x span) stand frame = tt
  layer_good (s.If x first None span) stand frame = if_good classes pick chooses finds source fits_source x (part first.0) None span first.1 tt stand frame
  layer_good (s.If x first (Some second) span) stand frame = if_good classes pick chooses finds source fits_source x (part first.0) (Some (part second.0)) span first.1 second.1 stand frame
  layer_good (s.While x body span) stand frame = while_good classes pick chooses finds source fits_source x (part body.0) span body.1 stand frame
  layer_good (s.Do body x span) stand frame = do_good classes pick chooses finds source fits_source (part body.0) x span body.1 stand frame
  layer_good (s.For first condition advance body span) stand frame = for_good classes pick chooses finds source fits_source first condition advance (part body.0) span body.1 stand frame
  layer_good (s.ForEach of name x body span) stand frame = tt
  layer_good (s.Switch x branches span) stand frame = switch_good classes pick chooses finds source fits_source x (map branch (map (λ k. k.0) branches)) span (each_branch branches) stand frame
  layer_good (s.Break span) stand frame = break_good classes span stand frame
  layer_good (s.Continue span) stand frame = continue_good classes span stand frame
  layer_good (s.Return x span) stand frame = return_good classes pick chooses finds source fits_source x span stand frame
  layer_good (s.Throw x span) stand frame = tt
  layer_good (s.Try body catches at_last span) stand frame = tt

  statement_step : (x : Statement-F Statement Block Catch Section) (y : Statement-F GoodStatement GoodBlock AnyCatch GoodSection) → bare_layer y ≡ x → IsGoodStatement (roll-Statement x)
  statement_step x y is =
      subst (λ z. IsGoodStatement (roll-Statement z)) is
      (subst (IsGood classes) (sym (fold-roll-Statement Part Part Part Branch (statement_layer pick finds source) (block_layer pick finds source) (catch_layer pick finds source) (section_layer pick finds source) (bare_layer y))) (layer_good y))

  block_step : (x : s.Block-F Statement Block Catch Section) (y : s.Block-F GoodStatement GoodBlock AnyCatch GoodSection)
      → map-Block GoodStatement GoodBlock AnyCatch GoodSection Statement Block Catch Section (λ k. k.0) (λ k. k.0) (λ k. k.0) (λ k. k.0) y ≡ x → IsGoodBlock (roll-Block x)
  block_step x y is =
      subst (λ z. IsGoodBlock (roll-Block z)) is
      (subst (IsGood classes) (sym (fold-roll-Block Part Part Part Branch (statement_layer pick finds source) (block_layer pick finds source) (catch_layer pick finds source) (section_layer pick finds source)
      (map-Block GoodStatement GoodBlock AnyCatch GoodSection Statement Block Catch Section (λ k. k.0) (λ k. k.0) (λ k. k.0) (λ k. k.0) y)))
      (λ stand frame. row_good classes stand (map part (map (λ k. k.0) y.statements)) frame [] frame (each_part y.statements) (good_none classes stand frame)))

  section_step : (x : s.Section-F Statement Block Catch Section) (y : s.Section-F GoodStatement GoodBlock AnyCatch GoodSection)
      → map-Section GoodStatement GoodBlock AnyCatch GoodSection Statement Block Catch Section (λ k. k.0) (λ k. k.0) (λ k. k.0) (λ k. k.0) y ≡ x → IsGoodSection (roll-Section x)
  section_step x y is =
      subst (λ z. IsGoodSection (roll-Section z)) is
      (subst (IsGoodBranch classes) (sym (fold-roll-Section Part Part Part Branch (statement_layer pick finds source) (block_layer pick finds source) (catch_layer pick finds source) (section_layer pick finds source)
      (map-Section GoodStatement GoodBlock AnyCatch GoodSection Statement Block Catch Section (λ k. k.0) (λ k. k.0) (λ k. k.0) (λ k. k.0) y)))
      (λ stand frame. row_good classes stand (map part (map (λ k. k.0) y.statements)) frame [] frame (each_part y.statements) (good_none classes stand frame)))

  pub block_good : (x : Block) → IsGoodBlock x
  block_good = ind-Block IsGoodStatement IsGoodBlock IsAny IsGoodSection statement_step block_step (λ x y is. tt) section_step

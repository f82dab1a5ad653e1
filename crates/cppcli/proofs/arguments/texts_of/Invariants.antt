use Rattle.std.proofs.Common.{◌≡◌, ◌<◌, ◌^◌, length, map, take, string_bytes}
use Rattle.std.specs.List.{All}
use Rattle.cppcli.specs.Answers.{units_of}
use Rattle.cppcli.proofs.arguments.texts_of.Given as goal

abbrev pub invariant-loop-word : goal.invariant-loop-word
invariant-loop-word l = record {
  so_far : l.texts.items ≡ map units_of (map (λ word. string_bytes word) (take l.word-index l.words));
  short : All (λ text. length text < 2 ^ 32) l.texts.items;
}

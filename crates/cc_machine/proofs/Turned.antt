-- A list turned round.
use Rattle.std.proofs.lemmas.List.{reverse-append, length-reverse}

pub ruleset turned = (reverse-append, length-reverse)

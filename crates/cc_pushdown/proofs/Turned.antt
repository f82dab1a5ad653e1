-- A list turned round.
use Rattle.std.proofs.lemmas.List.{reverse-append, reverse-reverse}

pub ruleset turned = (reverse-append)

pub ruleset turned_twice = (reverse-reverse)

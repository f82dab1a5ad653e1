use Rattle.std.proofs.Common.{◌≡◌, ◌≤◌, ◌++◌, drop}
use Rattle.cc_core.specs.Lists.{terms_of}
use Rattle.cc_code.specs.Sizes.{terms_size}
use Rattle.cc_code.specs.Terms.{terms_code}
use Rattle.cc_code.proofs.terms.+term.Given as goal

abbrev pub invariant-append_all-loop-item : goal.invariant-append_all-loop-item
invariant-append_all-loop-item l = record {
  bound : terms_size (terms_of (drop l.item-index l.items)) ≤ terms_size (terms_of l.items);
  code : l.code.items ++ terms_code l.tokens l.parameters (terms_of (drop l.item-index l.items)) ≡ l.initial.code.items ++ terms_code l.tokens l.parameters (terms_of l.items);
}

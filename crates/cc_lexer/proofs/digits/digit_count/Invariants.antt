use Rattle.std.proofs.Common.{◌≡◌, ◌+◌, ◌-◌, ◌≤◌, length, drop}
use Rattle.std.specs.List.{prefix_len}
use Rattle.std.specs.Char.{is_digit}
use Rattle.cc_lexer.proofs.digits.digit_count.Given as goal

abbrev pub invariant-digits : goal.invariant-digits
invariant-digits l = (l.count + prefix_len (λ b. is_digit b l.radix) (drop l.count l.bytes) ≡ prefix_len (λ b. is_digit b l.radix) l.bytes) × (l.count ≤ l.most) × (l.count ≤ length l.bytes)

abbrev pub decreases-digits : goal.decreases-digits
decreases-digits l = length l.bytes - l.count

-- What the code tells apart where it finds the least depth of the trees to come.
use Rattle.std.specs.Prelude.{ℕ, List, drop, Option, Some, None, cond, leb}
use Rattle.cc_table.specs.declared.symbols.Sort.TheVariants as o
use Rattle.cc_table.specs.declared.symbols.Symbol.{Symbol}
use Rattle.cc_table.specs.declared.symbols.Symbol.TheVariants.{Non, Act}
use Rattle.cc_grammar_laws.specs.Heights.{Heights, heights, name_less, member_less, new_less, after_greater}
use Rattle.cc_grammar.specs.declared.coming.Meeting.{Meeting}
use Rattle.cc_grammar.specs.declared.coming.Meeting.TheVariants as m
use Rattle.cc_grammar.specs.declared.coming.Named.{Named}
use Rattle.cc_grammar.specs.declared.coming.Named.TheVariants as n
use Rattle.cc_grammar.specs.declared.coming.Sign.{Sign}
use Rattle.cc_grammar.specs.declared.coming.Sign.TheVariants as s

-- what becomes of an operator at a symbol
abbrev pub meeting_at : ℕ → Symbol → Meeting
meeting_at tightness (Act action) = m.Act action
meeting_at tightness (Non o.SuffixRest) = m.Pass
meeting_at tightness (Non o.AfterUnary) = m.Take
meeting_at tightness (Non (o.BinaryRest least)) = cond (leb least tightness) m.Take m.Pass
meeting_at tightness _ = m.End

-- the sign that a symbol stands for
abbrev pub sign_of : Symbol → Option Sign
sign_of (Non o.GreaterEnd) = Some s.Greater
sign_of (Non o.AfterNameLess) = Some (s.Less n.Name)
sign_of (Non o.NameTypes) = Some (s.Types n.Name)
sign_of (Non o.AfterMemberLess) = Some (s.Less n.Member)
sign_of (Non o.MemberTypes) = Some (s.Types n.Member)
sign_of (Non o.AfterNewLess) = Some (s.Less n.Created)
sign_of (Non o.NewTypes) = Some (s.Types n.Created)
sign_of _ = None

-- the least depth after a sign
abbrev pub after_name : Named → List Symbol → Heights → ℕ
after_name n.Name more h = name_less more h
after_name n.Member more h = member_less more h
after_name n.Created more h = new_less more h

abbrev pub after_sign : Sign → List Symbol → Heights → ℕ
after_sign s.Greater more h = after_greater more (drop 1 h.stack)
after_sign (s.Less named) more h = after_name named more (heights 0 h.stack)
after_sign (s.Types named) more h = after_name named more h

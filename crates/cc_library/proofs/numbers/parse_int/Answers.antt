use Rattle.std.proofs.Common.{◌≡◌, sym, ap, ◌∙◌}
use Rattle.std.specs.Prelude.{Some}
use Rattle.cc_library.specs.Numerals.{number_of, signed_number, without_blanks}
use Rattle.cc_library.specs.Parsing.{signed_value}
use Rattle.cc_library.proofs.Parts.{its_number, lies_outside}
use Rattle.cc_library.proofs.numbers.parse_int.Goals as goal

pub returns-in_default : goal.returns-in_default
returns-in_default c =
    let parts = c.of-numeral.result in
    let value = signed_value parts.is_negative parts.digits.now in
    let numeral = c.without_blanks.ensures ∙ ap without_blanks c.as_slice.ensures in
    let test = sym c.has_digits_alone.ensures ∙ c.if-not-has_digits_alone.false in
    let number : number_of c.args.text.now ≡ Some value =
    ap signed_number (sym numeral) ∙ its_number c.without_blanks.result.now parts.digits.now parts.is_negative c.of-numeral.ensures.is_negative c.of-numeral.ensures.digits test in
    (value, number, lies_outside value c.args.least c.args.most c.ranges.least c.ranges.most c.in_default.ensures)

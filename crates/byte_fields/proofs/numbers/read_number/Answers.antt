use Rattle.std.proofs.Common.{◌≡◌, ◌-◌, ◌^◌, ◌<◌, ◌≤◌, min, ◌++◌, length, take, drop, sym, ap, ◌∙◌, subst, arith}
use Rattle.std.proofs.lemmas.List.{take_all}
use Rattle.byte_fields.specs.Numbers.{digits, numeral}
use Rattle.byte_fields.specs.Unused.{zeros}
use Rattle.byte_fields.proofs.NumberLaws.{digits_numeral, numeral_below, eight, read_wide}
use Rattle.byte_fields.proofs.numbers.read_number.Goals as goal

pub returns : goal.returns
unfolding zeros
returns c =
    let field = c.args.field.now in
    let part = c.copy_from_slice.new.self in
    let width = c.min-width.result - 0 in
    let is : width ≡ min (length field) 8 = omega arith in
    let wide = read_wide field part width is c.copy_from_slice.ensures.after in
    let e : c.from_le_bytes.result ≡ numeral (take 8 field) = c.from_le_bytes.ensures ∙ eight (part ++ drop width (zeros 8)) wide.0 ∙ wide.1 in
    let narrow : length field ≤ 8 → c.from_le_bytes.result ≡ numeral field = λ le. e ∙ ap numeral (take_all 8 field le) in
    record {
      is = e;
      narrow = narrow;
      below = λ le. subst (λ n. n < 256 ^ length field) (sym (narrow le)) (numeral_below field (λ k. omega (arith, c.type_inv.field k)));
      back = λ le. ap (digits (length field)) (narrow le) ∙ digits_numeral field (λ k. omega (arith, c.type_inv.field k));
    }

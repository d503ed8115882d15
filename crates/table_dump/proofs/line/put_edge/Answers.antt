use Rattle.std.proofs.Math.Facts.{to_z-of_z}
use Rattle.std.proofs.Common.{◌≡◌, ◌∷◌, ◌++◌, [], w64, SFits, rules}
use Rattle.std.specs.Fmt.{signed_decimal}
use Rattle.table_dump.proofs.Fields.{seven_fields}
use Rattle.table_dump.proofs.line.put_edge.Goals as goal

pub returns : goal.returns
returns c =
    let f : SFits w64 c.args.row.next_left = search rules in
    let h : SFits w64 c.args.row.next_right = search rules in
    let left_kept = to_z-of_z f in
    let right_kept = to_z-of_z h in
    let left_put = c.push_signed.ensures.field in
    let right_put = c.push_signed-2.ensures.field in
    let e4 : c.push_signed.new.text.items ≡ c.push_number-3.new.text.items ++ (signed_decimal c.args.row.next_left ++ (44 ∷ [])) = cc in
    let e5 : c.push_signed-2.new.text.items ≡ c.push_signed.new.text.items ++ (signed_decimal c.args.row.next_right ++ (44 ∷ [])) = cc in
    seven_fields _ _ _ _ _ _ _ _ _ _ _ _ _ _ _ c.push_number.ensures.field c.push_number-2.ensures.field c.push_number-3.ensures.field e4 e5 c.push_number-4.ensures.field c.push_number-5.ensures.field

-- What a dump costs: each table by its rows, and all of them by the size of the map.
use Rattle.std.proofs.Common.{◌≡◌, ℕ, ◌+◌, ◌*◌, ◌≤◌, true, length, ap, ◌∙◌, arith}
use Rattle.std.proofs.Math.Nat.{mul-le-mul_left}
use Rattle.plane_model.specs.Consistent.{size}
use Rattle.file_laws.specs.Contents.{Contents}
use Rattle.file_laws.specs.Lawful.{is_whole}
use Rattle.file_laws.proofs.Sizes.{size_is}
use Rattle.navigate.specs.Bound.{map_with, line_digits}
use Rattle.navigate.proofs.Facts.{w, digits_line}
use Rattle.navigate.proofs.OrbitLengths.{some_digits}
use Rattle.table_dump.specs.Prices.{most_dump_words}

-- what the five tables cost together
pub all_rows : (c : Contents) → is_whole c ≡ true → (start nodes edges faces regions members : ℕ) → nodes ≤ start + length c.nodes * (2 + (6 * line_digits c + 40)) → edges ≤ nodes + length c.edges * (9 * line_digits c + 78 + (3 * line_digits c + 18))
    → faces ≤ edges + length c.faces * (0 + (3 * line_digits c + 18)) → regions ≤ faces + length c.regions * (0 + (17 * line_digits c + 121)) → members ≤ regions + (length c.faces + 1) * (2 + (6 * line_digits c + 42))
    → members ≤ start + most_dump_words (map_with c)
all_rows c h start nodes edges faces regions members a b f r m =
    let d = line_digits c in
    let e = length c.edges in
    let i = length c.isolated in
    let n = length c.nodes in
    let fs = length c.faces in
    let rs = length c.regions in
    let sizes = (w c h).sizes in
    let node_sizes = sizes.nodes in
    let face_sizes = sizes.faces in
    let few = sizes.few_components in
    let digits_two = some_digits c in
    let words : most_dump_words (map_with c) ≡ 1024 * d * (2 * e + i + 2 * rs + 2 + 2)
    = ap (λ x. 1024 * x * (size (map_with c) + 2)) (digits_line c h) ∙ ap (λ x. 1024 * d * (x + 2)) (size_is c (w c h)) in
    let n_low : n ≤ 2 * e + i = omega (arith, node_sizes, face_sizes, few) in
    let f_low : fs ≤ e = omega (arith, face_sizes) in
    let one : 1 ≤ d = omega (arith, digits_two) in
    let n_many : d * n ≤ d * (2 * e + i) = mul-le-mul_left d n_low in
    let f_many : d * fs ≤ d * e = mul-le-mul_left d f_low in
    let n_each : n * 1 ≤ n * d = mul-le-mul_left n one in
    let e_each : e * 1 ≤ e * d = mul-le-mul_left e one in
    let f_each : fs * 1 ≤ fs * d = mul-le-mul_left fs one in
    let r_each : rs * 1 ≤ rs * d = mul-le-mul_left rs one in
    omega (arith, words, n_many, f_many, n_each, e_each, f_each, r_each, one, a, b, f, r, m)

-- all rows before the place where a loop ends
pub rows_paid : (place n price start last : ℕ) → place ≤ n → last ≤ start + place * price → last ≤ start + n * price
rows_paid place n price start last l a = let k : price * place ≤ price * n = mul-le-mul_left price l in omega (arith, k, a)

-- the first of them alone
pub one_table : (c : Contents) → is_whole c ≡ true → (start last : ℕ) → last ≤ start + length c.nodes * (2 + (6 * line_digits c + 40)) → last ≤ start + most_dump_words (map_with c)
one_table c h start last a = all_rows c h start last last last last last a (omega arith) (omega arith) (omega arith) (omega arith)

pub two_tables : (c : Contents) → is_whole c ≡ true → (start nodes last : ℕ) → nodes ≤ start + length c.nodes * (2 + (6 * line_digits c + 40)) → last ≤ nodes + length c.edges * (9 * line_digits c + 78 + (3 * line_digits c + 18)) → last ≤ start + most_dump_words (map_with c)
two_tables c h start nodes last a b = all_rows c h start nodes last last last last a b (omega arith) (omega arith) (omega arith)

pub three_tables : (c : Contents) → is_whole c ≡ true → (start nodes edges last : ℕ) → nodes ≤ start + length c.nodes * (2 + (6 * line_digits c + 40)) → edges ≤ nodes + length c.edges * (9 * line_digits c + 78 + (3 * line_digits c + 18))
    → last ≤ edges + length c.faces * (0 + (3 * line_digits c + 18)) → last ≤ start + most_dump_words (map_with c)
three_tables c h start nodes edges last a b f = all_rows c h start nodes edges last last last a b f (omega arith) (omega arith)

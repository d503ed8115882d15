use Rattle.std.proofs.Common.{◌≡◌, ◌*◌, ◌∙◌, ap, arith, false, length, replicate, subst, sym}
use Rattle.std.proofs.lemmas.List.FromFn.{length-map-range_with_len}
use Rattle.parens.specs.ParenView.{parens_of}
use Rattle.parens.proofs.Balances.{balanced}
use Rattle.region_tree.specs.Nesting.{opening}
use Rattle.region_tree.specs.RegionView.{regions_of}
use Rattle.file_parts.proofs.OpeningPlaces.{HaveOpened, all_opened, none_opened, one_opened, opens_listed, two_each}
use Rattle.file_parts.proofs.regions.region_bits.Goals as goal

pub loop-place-init : goal.loop-place-init
loop-place-init g c =
    let bits = parens_of c.args.regions.tree in
    let two = two_each bits (balanced bits c.args.regions.tree.balanced) in
    let opens = c.count-count.ensures.open in
    let size : length bits ≡ 2 * c.count-count.result = omega (arith, two, opens) in
    subst (HaveOpened bits 0) (sym (c.in_ok-bits.ensures ∙ ap (λ n. replicate n false) (sym size))) (none_opened bits)

pub index_mut-requires : goal.index_mut-requires
index_mut-requires g c =
    let bits = parens_of c.args.regions.tree in
    let n = length (regions_of c.args.regions).ids in
    let listed = c.deref-place-items.ensures.value ∙ c.in_ok-openings.ensures.openings in
    let many = ap length listed ∙ length-map-range_with_len (opening bits) 0 n in
    let opens = c.count-count.ensures.open in
    let all = c.count-count.ensures.count in
    let o = opens_listed bits c.deref-place-items.result.now n c.loop-place.place-index listed (omega (arith, opens, all)) (omega (arith, c.loop-place-test.true, many)) in
    let within = o.within in
    let size = c.loop-place.invariant.many in
    omega (arith, within, size, c.loop-place.bits.ok.0)

pub loop-place-preserved : goal.loop-place-preserved
loop-place-preserved g c =
    let bits = parens_of c.args.regions.tree in
    let n = length (regions_of c.args.regions).ids in
    let listed = c.deref-place-items.ensures.value ∙ c.in_ok-openings.ensures.openings in
    let many = ap length listed ∙ length-map-range_with_len (opening bits) 0 n in
    let opens = c.count-count.ensures.open in
    let all = c.count-count.ensures.count in
    let o = opens_listed bits c.deref-place-items.result.now n c.loop-place.place-index listed (omega (arith, opens, all)) (omega (arith, c.loop-place-test.true, many)) in
    one_opened bits c.loop-place.bits.items c.loop-place.place-index _ c.loop-place.invariant o

pub returns-clause-bits : goal.returns-clause-bits
returns-clause-bits g c =
    let bits = parens_of c.args.regions.tree in
    let n = length (regions_of c.args.regions).ids in
    let listed = c.deref-place-items.ensures.value ∙ c.in_ok-openings.ensures.openings in
    let many = ap length listed ∙ length-map-range_with_len (opening bits) 0 n in
    let opens = c.count-count.ensures.open in
    let all = c.count-count.ensures.count in
    all_opened bits c.loop-place.bits.items c.loop-place.place-index c.loop-place.invariant (omega (arith, c.loop-place-test.false, opens, all, many))

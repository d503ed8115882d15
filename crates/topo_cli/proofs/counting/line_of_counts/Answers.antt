use Rattle.std.specs.Prelude.{map, flat_map}
use Rattle.std.proofs.Common.{◌≡◌, [], ◌∷◌, ◌++◌, ◌∙◌}
use Rattle.topo_base.specs.Script.{Item, item_text}
use Rattle.plane_model.specs.PlaneMap.{map_of}
use Rattle.file_laws.specs.MapOfFile.{rows_of_contents}
use Rattle.pemb_file.specs.Served.{contents_of_view}
use Rattle.file_laws.proofs.FiveCounts.{counts_of_map}
use Rattle.topo_cli.specs.Text.{counts_line, five}
use Rattle.topo_cli.proofs.CountsLine.{shown_counts, if_ok_more}
use Rattle.topo_cli.proofs.counting.line_of_counts.Goals as goal

pub returns : goal.returns
returns c =
    let contents = contents_of_view c.args.served.now in
    if_ok_more c.line_of_numbers.result
    (λ line. line.items ≡ c.args.word.now ++ flat_map item_text (map Item.Number (five c.counts.result)) ++ 10 ∷ [])
    (λ line. line.items ≡ counts_line c.args.word.now (map_of (rows_of_contents contents)))
    c.line_of_numbers.ensures
    (λ line is. is ∙ shown_counts c.args.word.now contents c.counts.result (map_of (rows_of_contents contents)) c.counts.ensures (counts_of_map contents c.args.served.now.whole))

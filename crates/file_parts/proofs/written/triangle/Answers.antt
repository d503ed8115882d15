use Rattle.std.proofs.Common.{sym, subst, IsTrue}
use Rattle.file_laws.specs.Contents.{Contents}
use Rattle.file_laws.specs.Lawful.{is_whole, has_room_for}
use Rattle.pemb_file.proofs.MadeCode.{same_walk}
use Rattle.pemb_file.proofs.MadeImage.{same_contents}
use Rattle.pemb_file.proofs.WorkedParts.{triangle_whole, triangle_room}
use Rattle.file_parts.proofs.written.triangle.Goals as goal

pub returns-clause-whole : goal.returns-clause-whole
returns-clause-whole c =
    subst (λ (k : Contents). IsTrue (is_whole k))
    (sym (same_contents _ _ _ _ _ _ _ _ _ _ _ _ _ _ _ _ _ _ _ _ _ _
    (same_walk _ _ _ _ _ _ c.in_ok-vec.ensures.items c.in_ok-vec-2.ensures.items c.in_ok-vec-3.ensures.items) c.in_ok-vec-4.ensures.items c.in_ok-vec-5.ensures.items c.in_ok-vec-6.ensures.items c.in_ok-vec-7.ensures.items c.new-3.ensures.items c.in_ok-vec-8.ensures.items c.in_ok-vec-9.ensures.items c.new.ensures.items c.new-2.ensures.items c.in_ok-vec-10.ensures.items))
    triangle_whole

pub returns-clause-room : goal.returns-clause-room
returns-clause-room c =
    subst (λ (k : Contents). IsTrue (has_room_for 1 k))
    (sym (same_contents _ _ _ _ _ _ _ _ _ _ _ _ _ _ _ _ _ _ _ _ _ _
    (same_walk _ _ _ _ _ _ c.in_ok-vec.ensures.items c.in_ok-vec-2.ensures.items c.in_ok-vec-3.ensures.items) c.in_ok-vec-4.ensures.items c.in_ok-vec-5.ensures.items c.in_ok-vec-6.ensures.items c.in_ok-vec-7.ensures.items c.new-3.ensures.items c.in_ok-vec-8.ensures.items c.in_ok-vec-9.ensures.items c.new.ensures.items c.new-2.ensures.items c.in_ok-vec-10.ensures.items))
    triangle_room

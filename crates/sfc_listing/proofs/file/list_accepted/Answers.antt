-- `sfc_listing::file::list_accepted` meets its contract: past the limit, or the session in parts of the memory. Assumes nothing.
use native.Mathlib.Omega.{arith}
use lib.ListN.{length-take, length-drop}
use Rattle.sfc_listing.specs.Lent.{on_desk}
use Rattle.sfc_listing.proofs.PageLaws.{puts_within, puts_as}
use Rattle.sfc_listing.proofs.FileLaws.{blocks-few, trailer-after, limit_text, session-text, desk_holds, ready}
use Rattle.sfc_listing.proofs.file.list_accepted.Goals as goal

pub overflow_mul-bytes : goal.overflow_mul-bytes
overflow_mul-bytes c = record { fits = omega (arith, (blocks-few c.args.h c.args.file.now c.requires.read).1) }

pub returns-then-bytes-gt-BLOCKS_MOST : goal.returns-then-bytes-gt-BLOCKS_MOST
returns-then-bytes-gt-BLOCKS_MOST c =
    puts_within (puts_as (limit_text c.args.h c.args.file.now c.requires.read c.if-bytes-gt-BLOCKS_MOST.true) c.put_refused.ensures) (omega arith)

pub overflow_sub-end : goal.overflow_sub-end
overflow_sub-end c = omega (arith, trailer-after c.args.h c.args.file.now c.requires.read)

pub slice_bounds-list_session-count : goal.slice_bounds-list_session-count
slice_bounds-list_session-count c = omega (arith, trailer-after c.args.h c.args.file.now c.requires.read, c.read32.ensures)

pub slice_bounds-list_session-start : goal.slice_bounds-list_session-start
slice_bounds-list_session-start c = omega (arith, trailer-after c.args.h c.args.file.now c.requires.read, c.read32.ensures)

pub cut-wanted-requires-clause-store : goal.cut-wanted-requires-clause-store
cut-wanted-requires-clause-store c = (desk_holds c.args.h c.args.file.now c.requires.read c.if-bytes-gt-BLOCKS_MOST.false (on_desk c.args.desk) c.requires.desk).0

pub cut-wanted-requires-clause-marks : goal.cut-wanted-requires-clause-marks
cut-wanted-requires-clause-marks c = (desk_holds c.args.h c.args.file.now c.requires.read c.if-bytes-gt-BLOCKS_MOST.false (on_desk c.args.desk) c.requires.desk).1

pub cut-wanted-requires-clause-scratch : goal.cut-wanted-requires-clause-scratch
cut-wanted-requires-clause-scratch c = (desk_holds c.args.h c.args.file.now c.requires.read c.if-bytes-gt-BLOCKS_MOST.false (on_desk c.args.desk) c.requires.desk).2

pub list_session-requires-clause-ready : goal.list_session-requires-clause-ready
list_session-requires-clause-ready c =
    rw c.cut-wanted.ensures (ready c.args.h c.args.file.now c.requires.read c.if-bytes-gt-BLOCKS_MOST.false (on_desk c.args.desk) c.requires.desk)

pub list_session-requires-clause-near : goal.list_session-requires-clause-near
list_session-requires-clause-near c = simp (length-take, length-drop) (omega (arith, trailer-after c.args.h c.args.file.now c.requires.read, c.requires.short, c.read32.ensures))

pub returns : goal.returns
returns c =
    puts_as (session-text c.args.h c.args.file.now c.requires.read c.if-bytes-gt-BLOCKS_MOST.false c.read32.result c.read32.ensures) c.list_session.ensures

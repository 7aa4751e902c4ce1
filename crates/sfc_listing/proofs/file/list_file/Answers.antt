-- `sfc_listing::file::list_file` meets its contract: too long, refused by its header, or accepted. Assumes nothing.
use native.Mathlib.Omega.{arith}
use Rattle.sfc_listing.proofs.PageLaws.{puts_within, puts_as}
use Rattle.sfc_listing.proofs.FileLaws.{listing_long, listing_refused, listing_accepted}
use Rattle.sfc_listing.proofs.file.list_file.Goals as goal

pub returns-then-file-gt-FILE_MOST : goal.returns-then-file-gt-FILE_MOST
returns-then-file-gt-FILE_MOST c =
    puts_within (puts_as (listing_long c.args.file.now c.if-file-gt-FILE_MOST.true) c.put_refused.ensures) (omega arith)

pub list_accepted-requires-clause-read : goal.list_accepted-requires-clause-read
list_accepted-requires-clause-read c =
    (listing_accepted c.args.file.now c.if-file-gt-FILE_MOST.false _ c.read_header.ensures c.in-Ok.head c.in-Ok.is).0

pub returns-in-Ok : goal.returns-in-Ok
returns-in-Ok c =
    puts_as (listing_accepted c.args.file.now c.if-file-gt-FILE_MOST.false _ c.read_header.ensures c.in-Ok.head c.in-Ok.is).1 c.list_accepted.ensures

pub returns-in-Err : goal.returns-in-Err
returns-in-Err c =
    puts_within (puts_as (listing_refused c.args.file.now c.if-file-gt-FILE_MOST.false _ c.read_header.ensures _ c.in-Err.is) c.put_refused-in-Err.ensures) (omega arith)

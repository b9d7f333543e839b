use Rattle.values_api.proofs.WriteEnds.{given_as, has_room, within_sheet, is_write, written_there}
use Rattle.values_api.proofs.writing.put_values.Goals as goal

pub write-requires-clause-room : goal.write-requires-clause-room
write-requires-clause-room c =
    has_room (given_as c.args.alloc c.args.area c.args.block c.ends-end_row.result) c.args.one_cell c.args.book.now
    c.stays_sound.ensures c.requires c.ends-end_row.ensures

pub write-requires-clause-sheet : goal.write-requires-clause-sheet
write-requires-clause-sheet c =
    within_sheet (given_as c.args.alloc c.args.area c.args.block c.ends-end_row.result) c.args.one_cell c.args.book.now
    c.stays_sound.ensures c.requires c.ends-end_row.ensures

pub returns-clause-written : goal.returns-clause-written
returns-clause-written c =
    is_write (given_as c.args.alloc c.args.area c.args.block c.ends-end_row.result) c.args.one_cell c.args.book.now
    c.stays_sound.ensures c.requires c.ends-end_row.ensures c.write.new.book c.write.result c.write.ensures

pub returns-clause-there : goal.returns-clause-there
returns-clause-there c =
    written_there (given_as c.args.alloc c.args.area c.args.block c.ends-end_row.result) c.args.one_cell c.args.book.now
    c.stays_sound.ensures c.requires c.ends-end_row.ensures c.write.new.book c.write.result c.write.ensures

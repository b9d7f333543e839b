use Rattle.sheets_json.proofs.reading.ranges_read.Goals as goal

pub returns : goal.returns
returns c = rw (← c.in_ok-ranges.ensures) c.many_read.ensures

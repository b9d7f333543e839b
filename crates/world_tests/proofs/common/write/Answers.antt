use Rattle.world_tests.proofs.common.write.Goals as goal

pub put-requires-clause-within : goal.put-requires-clause-within
put-requires-clause-within c = c.content.ensures c.args.book.now.sheets

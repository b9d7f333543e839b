use Rattle.std.proofs.Common.{ap, sym, subst, ◌∙◌}
use Rattle.std.specs.Prelude.{IfOk, false, unwrap_or}
use Rattle.std.specs.Option.{IsSome}
use Rattle.dimension_ops.specs.World.{book_with}
use Rattle.batch_engine.specs.Calls.{AreNext, IsAnswered, IsAppendOf, IsApplied, IsBatchOf, IsClearManyOf, IsInstalled, IsWriteManyOf, told_as}
use Rattle.batch_engine.specs.Looks.{IsSpreadsheetShown}
use Rattle.batch_engine.proofs.Installed.{if_ok, made_applied, making_judged, read_applied, read_judged, item_applied, item_judged, read_filtered_applied, search_applied}
use Rattle.batch_engine.proofs.Installed.{applied_change, change_there, look_applied, write_there, write_applied, clear_there, clear_applied, lone_applied, lone_there}
use Rattle.batch_engine.proofs.calls.apply.Goals as goal

pub changed-requires : goal.changed-requires
changed-requires c =
    subst (λ told. IfOk told (λ done. IsSome (book_with done.1.id c.args.world.now))) (sym c.alone-in-Write.ensures)
    (write_there _ _ _ _ c.args.world.now c.book_of-book-in-Write.result.now c.args.caller.now c.args.call.now
    c.in-Write.is
    (rw c.as_str-in-Write.ensures at c.book_of-book-in-Write.ensures) c.write.result c.in_ok-told-in-Write.told
    (rw (c.as_str-in-Write-2.ensures, c.as_str-user.ensures) at c.write.ensures) c.in_ok-told-in-Write.ensures)

pub changed-requires-in-Clear : goal.changed-requires-in-Clear
changed-requires-in-Clear c =
    subst (λ told. IfOk told (λ done. IsSome (book_with done.1.id c.args.world.now))) (sym c.alone-in-Clear.ensures)
    (clear_there _ _ c.args.world.now c.book_of-book-in-Clear.result.now c.args.caller.now c.args.call.now
    c.in-Clear.is (rw c.as_str-in-Clear.ensures at c.book_of-book-in-Clear.ensures) c.clear.result
    c.in_ok-told-in-Clear.told (rw (c.as_str-in-Clear-2.ensures, c.as_str-user-in-Clear.ensures) at c.clear.ensures)
    c.in_ok-told-in-Clear.ensures)

pub returns-in_ok-told-in-Read : goal.returns-in_ok-told-in-Read
returns-in_ok-told-in-Read c =
    read_applied c.args.world.now c.book_of-book.result.now c.args.caller.now c.args.call.now c.unchanged.result.outcome
    c.unchanged.result.next c.unchanged.ensures.next _ _ _ _ c.in-Read.is
    (rw c.as_str.ensures at c.book_of-book.ensures)
    c.in_ok-told-in-Read.told
    (read_judged c.in-Read.range c.in-Read.major_dimension c.in-Read.value_render_option c.book_of-book.result.now
    c.read.result c.in_ok-told-in-Read.told (rw c.as_str-in-Read.ensures at c.read.ensures)
    c.in_ok-told-in-Read.ensures)
    (c.unchanged.ensures.outcome ∙ ap told_as c.alone.ensures)

pub returns-in_ok-told-in-Write : goal.returns-in_ok-told-in-Write
returns-in_ok-told-in-Write c =
    if_ok (λ applied. IsInstalled c.args.world.now c.alone-in-Write.result applied.outcome applied.next)
    (λ applied. IsApplied c.args.caller.now c.args.call.now c.args.world.now applied.outcome applied.next)
    c.changed.result
    (λ applied installed. write_applied _ _ _ _ c.args.world.now c.book_of-book-in-Write.result.now c.args.caller.now
    c.args.call.now
    c.in-Write.is (rw c.as_str-in-Write.ensures at c.book_of-book-in-Write.ensures) c.write.result
    c.in_ok-told-in-Write.told (rw (c.as_str-in-Write-2.ensures, c.as_str-user.ensures) at c.write.ensures)
    c.in_ok-told-in-Write.ensures
    applied.outcome applied.next (subst (λ told. IsInstalled c.args.world.now told applied.outcome applied.next)
    c.alone-in-Write.ensures installed)) c.changed.ensures

pub returns-in_ok-told-in-Clear : goal.returns-in_ok-told-in-Clear
returns-in_ok-told-in-Clear c =
    if_ok (λ applied. IsInstalled c.args.world.now c.alone-in-Clear.result applied.outcome applied.next)
    (λ applied. IsApplied c.args.caller.now c.args.call.now c.args.world.now applied.outcome applied.next)
    c.changed-in-Clear.result
    (λ applied installed. clear_applied _ _ c.args.world.now c.book_of-book-in-Clear.result.now c.args.caller.now
    c.args.call.now
    c.in-Clear.is (rw c.as_str-in-Clear.ensures at c.book_of-book-in-Clear.ensures) c.clear.result
    c.in_ok-told-in-Clear.told (rw (c.as_str-in-Clear-2.ensures, c.as_str-user-in-Clear.ensures) at c.clear.ensures)
    c.in_ok-told-in-Clear.ensures
    applied.outcome applied.next (subst (λ told. IsInstalled c.args.world.now told applied.outcome applied.next)
    c.alone-in-Clear.ensures installed)) c.changed-in-Clear.ensures

pub changed-requires-in-Append : goal.changed-requires-in-Append
changed-requires-in-Append c =
    subst (λ told. IfOk told (λ done. IsSome (book_with done.1.id c.args.world.now))) (sym c.alone-in-Append.ensures)
    (lone_there _ c.args.world.now c.book_of-book-in-Append.result.now c.args.caller.now c.args.call.now
    (IsAppendOf c.args.caller.now.user c.in-Append.range c.in-Append.insert_data_option c.in-Append.values)
    (λ answered effect holds. subst (λ one. IsAnswered c.args.caller.now one c.args.world.now answered effect)
    (sym c.in-Append.is) holds)
    (rw c.as_str-in-Append.ensures at c.book_of-book-in-Append.ensures) c.append.result c.in_ok-told-in-Append.told
    (rw (c.as_str-in-Append-2.ensures, c.as_str-user-in-Append.ensures) at c.append.ensures)
    c.in_ok-told-in-Append.ensures)

pub returns-in_ok-told-in-Append : goal.returns-in_ok-told-in-Append
returns-in_ok-told-in-Append c =
    if_ok (λ applied. IsInstalled c.args.world.now c.alone-in-Append.result applied.outcome applied.next)
    (λ applied. IsApplied c.args.caller.now c.args.call.now c.args.world.now applied.outcome applied.next)
    c.changed-in-Append.result
    (λ applied installed. lone_applied _ c.args.world.now c.book_of-book-in-Append.result.now c.args.caller.now
    c.args.call.now
    (IsAppendOf c.args.caller.now.user c.in-Append.range c.in-Append.insert_data_option c.in-Append.values)
    (λ answered effect holds. subst (λ one. IsAnswered c.args.caller.now one c.args.world.now answered effect)
    (sym c.in-Append.is) holds)
    (rw c.as_str-in-Append.ensures at c.book_of-book-in-Append.ensures) c.append.result c.in_ok-told-in-Append.told
    (rw (c.as_str-in-Append-2.ensures, c.as_str-user-in-Append.ensures) at c.append.ensures)
    c.in_ok-told-in-Append.ensures
    applied.outcome applied.next (subst (λ told. IsInstalled c.args.world.now told applied.outcome applied.next)
    c.alone-in-Append.ensures installed)) c.changed-in-Append.ensures

pub changed-requires-in-ClearMany : goal.changed-requires-in-ClearMany
changed-requires-in-ClearMany c =
    change_there c.args.caller.now c.args.call.now _ c.args.world.now
    (IsClearManyOf c.args.caller.now.user c.in-ClearMany.ranges)
    (λ answered effect holds. subst (λ one. IsAnswered c.args.caller.now one c.args.world.now answered effect)
    (sym c.in-ClearMany.is) holds)
    c.book_of-book-in-ClearMany.result.now (rw c.as_str-in-ClearMany.ensures at c.book_of-book-in-ClearMany.ensures)
    c.in_ok-clear_many-in-ClearMany.field-0
    (rw (c.as_slice-in-ClearMany.ensures, c.as_str-user-in-ClearMany.ensures)
    at c.in_ok-clear_many-in-ClearMany.ensures)

pub returns-in_ok-clear_many-in-ClearMany : goal.returns-in_ok-clear_many-in-ClearMany
returns-in_ok-clear_many-in-ClearMany c =
    if_ok (λ applied. IsInstalled c.args.world.now c.in_ok-clear_many-in-ClearMany.field-0 applied.outcome applied.next)
    (λ applied. IsApplied c.args.caller.now c.args.call.now c.args.world.now applied.outcome applied.next)
    c.changed-in-ClearMany.result
    (λ applied installed. applied_change c.args.caller.now c.args.call.now _ c.args.world.now
    (IsClearManyOf c.args.caller.now.user c.in-ClearMany.ranges)
    (λ answered effect holds. subst (λ one. IsAnswered c.args.caller.now one c.args.world.now answered effect)
    (sym c.in-ClearMany.is) holds)
    c.book_of-book-in-ClearMany.result.now (rw c.as_str-in-ClearMany.ensures at c.book_of-book-in-ClearMany.ensures)
    c.in_ok-clear_many-in-ClearMany.field-0 applied.outcome applied.next
    (rw (c.as_slice-in-ClearMany.ensures, c.as_str-user-in-ClearMany.ensures)
    at c.in_ok-clear_many-in-ClearMany.ensures) installed) c.changed-in-ClearMany.ensures

pub changed-requires-in-WriteMany : goal.changed-requires-in-WriteMany
changed-requires-in-WriteMany c =
    change_there c.args.caller.now c.args.call.now _ c.args.world.now
    (IsWriteManyOf c.args.caller.now.user c.in-WriteMany.data)
    (λ answered effect holds. subst (λ one. IsAnswered c.args.caller.now one c.args.world.now answered effect)
    (sym c.in-WriteMany.is) holds)
    c.book_of-book-in-WriteMany.result.now (rw c.as_str-in-WriteMany.ensures at c.book_of-book-in-WriteMany.ensures)
    c.in_ok-write_many-in-WriteMany.field-0
    (rw (c.as_slice-in-WriteMany.ensures, c.as_str-user-in-WriteMany.ensures)
    at c.in_ok-write_many-in-WriteMany.ensures)

pub returns-in_ok-write_many-in-WriteMany : goal.returns-in_ok-write_many-in-WriteMany
returns-in_ok-write_many-in-WriteMany c =
    if_ok (λ applied. IsInstalled c.args.world.now c.in_ok-write_many-in-WriteMany.field-0 applied.outcome applied.next)
    (λ applied. IsApplied c.args.caller.now c.args.call.now c.args.world.now applied.outcome applied.next)
    c.changed-in-WriteMany.result
    (λ applied installed. applied_change c.args.caller.now c.args.call.now _ c.args.world.now
    (IsWriteManyOf c.args.caller.now.user c.in-WriteMany.data)
    (λ answered effect holds. subst (λ one. IsAnswered c.args.caller.now one c.args.world.now answered effect)
    (sym c.in-WriteMany.is) holds)
    c.book_of-book-in-WriteMany.result.now (rw c.as_str-in-WriteMany.ensures at c.book_of-book-in-WriteMany.ensures)
    c.in_ok-write_many-in-WriteMany.field-0 applied.outcome applied.next
    (rw (c.as_slice-in-WriteMany.ensures, c.as_str-user-in-WriteMany.ensures)
    at c.in_ok-write_many-in-WriteMany.ensures) installed) c.changed-in-WriteMany.ensures

pub changed-requires-in-Batch : goal.changed-requires-in-Batch
changed-requires-in-Batch c =
    change_there c.args.caller.now c.args.call.now _ c.args.world.now
    (IsBatchOf c.args.caller.now.user c.args.caller.now.project c.in-Batch.requests)
    (λ answered effect holds. subst (λ one. IsAnswered c.args.caller.now one c.args.world.now answered effect)
    (sym c.in-Batch.is) holds)
    c.book_of-book-in-Batch.result.now (rw c.as_str-in-Batch.ensures at c.book_of-book-in-Batch.ensures)
    c.in_ok-batch-in-Batch.field-0
    (rw (c.as_slice-in-Batch.ensures, c.as_str-user-in-Batch.ensures, c.as_str-project.ensures)
    at c.in_ok-batch-in-Batch.ensures)

pub returns-in_ok-batch-in-Batch : goal.returns-in_ok-batch-in-Batch
returns-in_ok-batch-in-Batch c =
    if_ok (λ applied. IsInstalled c.args.world.now c.in_ok-batch-in-Batch.field-0 applied.outcome applied.next)
    (λ applied. IsApplied c.args.caller.now c.args.call.now c.args.world.now applied.outcome applied.next)
    c.changed-in-Batch.result
    (λ applied installed. applied_change c.args.caller.now c.args.call.now _ c.args.world.now
    (IsBatchOf c.args.caller.now.user c.args.caller.now.project c.in-Batch.requests)
    (λ answered effect holds. subst (λ one. IsAnswered c.args.caller.now one c.args.world.now answered effect)
    (sym c.in-Batch.is) holds)
    c.book_of-book-in-Batch.result.now (rw c.as_str-in-Batch.ensures at c.book_of-book-in-Batch.ensures)
    c.in_ok-batch-in-Batch.field-0 applied.outcome applied.next
    (rw (c.as_slice-in-Batch.ensures, c.as_str-user-in-Batch.ensures, c.as_str-project.ensures)
    at c.in_ok-batch-in-Batch.ensures) installed) c.changed-in-Batch.ensures

pub returns-in_ok-shown-in-Get : goal.returns-in_ok-shown-in-Get
returns-in_ok-shown-in-Get c =
    look_applied c.args.world.now c.book_of-book-in-Get.result.now c.args.caller.now c.args.call.now
    c.unchanged-in-Get.result.outcome
    c.unchanged-in-Get.result.next c.unchanged-in-Get.ensures.next _ _ c.in-Get.is
    (rw c.as_str-in-Get.ensures at c.book_of-book-in-Get.ensures)
    c.in_ok-shown-in-Get.shown (subst
    (λ user. IsSpreadsheetShown user (unwrap_or c.in-Get.include_grid_data false) c.book_of-book-in-Get.result.now
    c.in_ok-shown-in-Get.shown)
    c.as_str-in-Get-2.ensures c.in_ok-shown-in-Get.ensures) c.unchanged-in-Get.ensures.outcome

pub returns-in_ok-told-in-Create : goal.returns-in_ok-told-in-Create
returns-in_ok-told-in-Create c =
    made_applied c.args.caller.now c.args.call.now c.args.world.now c.in-Create.spreadsheet c.in-Create.is
    c.in_ok-told-in-Create.told
    (making_judged c.args.caller.now.user c.in-Create.spreadsheet c.args.world.now c.create.result
    c.in_ok-told-in-Create.told (rw c.as_str-in-Create.ensures at c.create.ensures) c.in_ok-told-in-Create.ensures)
    c.made.result.outcome c.made.result.next
    (subst (λ told. AreNext told c.made.result.outcome c.made.result.next) c.alone-in-Create.ensures c.made.ensures)

pub returns-in_ok-told-in-ReadFiltered : goal.returns-in_ok-told-in-ReadFiltered
returns-in_ok-told-in-ReadFiltered c =
    read_filtered_applied c.args.world.now c.book_of-book-in-ReadFiltered.result.now c.args.caller.now c.args.call.now
    c.unchanged-in-ReadFiltered.result.outcome c.unchanged-in-ReadFiltered.result.next
    c.unchanged-in-ReadFiltered.ensures.next _ _ _ _ c.in-ReadFiltered.is
    (rw c.as_str-in-ReadFiltered.ensures at c.book_of-book-in-ReadFiltered.ensures) c.in_ok-told-in-ReadFiltered.told
    (rw (c.as_slice-filters.ensures, c.as_str-project-in-ReadFiltered.ensures)
    at c.in_ok-told-in-ReadFiltered.ensures) c.unchanged-in-ReadFiltered.ensures.outcome

pub returns-in_ok-told-in-Item : goal.returns-in_ok-told-in-Item
returns-in_ok-told-in-Item c =
    item_applied c.args.world.now c.book_of-book-in-Item.result.now c.args.caller.now c.args.call.now
    c.unchanged-in-Item.result.outcome c.unchanged-in-Item.result.next c.unchanged-in-Item.ensures.next _ _ c.in-Item.is
    (rw c.as_str-in-Item.ensures at c.book_of-book-in-Item.ensures) c.in_ok-told-in-Item.told
    (item_judged c.args.caller.now.project c.in-Item.metadata_id c.book_of-book-in-Item.result.now c.item.result
    c.in_ok-told-in-Item.told (rw c.as_str-project-in-Item.ensures at c.item.ensures) c.in_ok-told-in-Item.ensures)
    (c.unchanged-in-Item.ensures.outcome ∙ ap told_as c.alone-in-Item.ensures)

pub returns-in_ok-search-in-Search : goal.returns-in_ok-search-in-Search
returns-in_ok-search-in-Search c =
    search_applied c.args.world.now c.book_of-book-in-Search.result.now c.args.caller.now c.args.call.now
    c.unchanged-in-Search.result.outcome c.unchanged-in-Search.result.next c.unchanged-in-Search.ensures.next _ _
    c.in-Search.is (rw c.as_str-in-Search.ensures at c.book_of-book-in-Search.ensures) c.in_ok-search-in-Search.field-0
    (rw (c.as_slice-in-Search.ensures, c.as_str-project-in-Search.ensures) at c.in_ok-search-in-Search.ensures)
    c.unchanged-in-Search.ensures.outcome

-- deleteDeveloperMetadata (Google Sheets API v4 reference, DeleteDeveloperMetadataRequest): the items are deleted that
-- the project of the call sees and that the look-up finds; they are replied. No cell is touched.
use Rattle.std.specs.Prelude.{◌≡◌, ℕ, List, [], ◌∷◌, Result, Ok}
use Rattle.dev_metadata.specs.Listed.{AreIdsInOrder, found, not_found}
use Rattle.world_model.specs.Book.{PlaceBook}
use Rattle.world_model.specs.BookChange.{BookChange}
use Rattle.dimension_ops.specs.Broken.{first_broken}
use Rattle.dimension_ops.specs.declared.rule.Rule.{Rule}
use Rattle.json_requests.specs.declared.request.MetadataLookup.{MetadataLookup}
use Rattle.sheets_json.specs.declared.spreadsheet.Reply.{Reply}
use Rattle.sheets_json.specs.declared.spreadsheet.Reply.TheVariants as reply
use Rattle.request_kinds.specs.Metadata.{broken_by_lookups, items_seen, lookup_of}
use Rattle.request_kinds.specs.Telling.{Tells, UnlessBroken}

-- in order of id
pub record IsMetadataDeleted (project : List ℕ) (asked : MetadataLookup) (book : PlaceBook)
    (told : Result (Reply × List BookChange) Rule) : Type 0 where
  pub ids : List ℕ
  pub in_order : AreIdsInOrder (found (lookup_of asked) project book.metadata) ids
  pub told_is : told ≡ Ok (
    reply.DeleteDeveloperMetadata (items_seen project ids book.metadata),
    BookChange.MetadataSet (not_found (lookup_of asked) project book.metadata) ∷ [],
  )

abbrev pub IsDeleteDeveloperMetadata : List ℕ → MetadataLookup → PlaceBook → Tells
IsDeleteDeveloperMetadata project asked book =
    UnlessBroken (first_broken (broken_by_lookups book.sheets (asked ∷ []))) (IsMetadataDeleted project asked book)

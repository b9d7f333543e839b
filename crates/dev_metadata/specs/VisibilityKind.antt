-- The words DOCUMENT and PROJECT of the `DeveloperMetadataVisibility` of the Google Sheets API v4, as a
-- call gives them.
use Rattle.std.specs.Prelude.{ℕ, Bool, not, List}
use Rattle.dev_metadata.specs.declared.types.Visibility.{Visibility}
use Rattle.dev_metadata.specs.declared.types.VisibilityKind.{VisibilityKind}
use Rattle.dev_metadata.specs.declared.types.VisibilityKind.TheVariants.{Document, Project}
use Rattle.dev_metadata.specs.Visibility.{is_of_document, of_document, of_project}

-- the word is that of the item's visibility
abbrev pub has_visibility : VisibilityKind → Visibility → Bool
has_visibility Document visibility = is_of_document visibility
has_visibility Project visibility = not (is_of_document visibility)

-- what the word means in a call of the project
abbrev pub visibility_given : List ℕ → VisibilityKind → Visibility
visibility_given project Document = of_document
visibility_given project Project = of_project project

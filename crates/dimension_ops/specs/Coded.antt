-- How a sheet and a spreadsheet are laid out, so that they can be seen as what they keep.
use Rattle.std.specs.Prelude.{ℕ, Bool, List, Option, refl}
use Rattle.std.specs.Coded.{Coded, code_by, coded×, coded_list, coded_option, coded_bool, coded_ℕ}
use Rattle.basic_filter.specs.contracts.types.Filter as filter
use Rattle.basic_filter.specs.declared.types.Filter.{Filter}
use Rattle.cell_store.specs.Table.{Table, table_code}
use Rattle.dev_metadata.specs.contracts.types.Item as item
use Rattle.dev_metadata.specs.declared.types.Item.{Item}
use Rattle.grid_range.specs.contracts.area.Area as area
use Rattle.grid_range.specs.declared.area.Area.{Area}
use Rattle.named_ranges.specs.contracts.range.NamedRange as range
use Rattle.named_ranges.specs.declared.range.NamedRange.{NamedRange}
use Rattle.protection.specs.contracts.range.Protection as protection
use Rattle.protection.specs.declared.range.Protection.{Protection}
use Rattle.ref_rewrite.specs.contracts.cell_content.Content as content
use Rattle.ref_rewrite.specs.declared.cell_content.Content.{Content}
use Rattle.world_model.specs.Book.{PlaceBook}
use Rattle.world_model.specs.Making.{Placed}
use Rattle.world_model.specs.Sheet.{PlaceSheet}

abbrev pub sheet_code : Coded PlaceSheet
sheet_code =
    code_by (ℕ × (List ℕ × (Bool × (Table Content × (List Area × Option Filter)))))
    (coded× coded_ℕ (coded× (coded_list coded_ℕ) (coded× coded_bool (coded× (table_code content.the_row.coded)
    (coded× (coded_list area.the_row.coded) (coded_option filter.the_row.coded))))))
    (λ s. (s.id, (s.title, (s.hidden, (s.table, (s.merges, s.filter))))))
    (λ p. record {
      id = p.0;
      title = p.1.0;
      hidden = p.1.1.0;
      table = p.1.1.1.0;
      merges = p.1.1.1.1.0;
      filter = p.1.1.1.1.1;
    })
    (λ _. refl)

abbrev pub book_code : Coded PlaceBook
book_code =
    code_by (List ℕ × (List ℕ × (List ℕ × (List PlaceSheet × (List NamedRange × (List Protection × List Item))))))
    (coded× (coded_list coded_ℕ) (coded× (coded_list coded_ℕ) (coded× (coded_list coded_ℕ)
    (coded× (coded_list sheet_code) (coded× (coded_list range.the_row.coded)
    (coded× (coded_list protection.the_row.coded) (coded_list item.the_row.coded)))))))
    (λ b. (b.id, (b.title, (b.owner, (b.sheets, (b.ranges, (b.protections, b.metadata)))))))
    (λ p. record {
      id = p.0;
      title = p.1.0;
      owner = p.1.1.0;
      sheets = p.1.1.1.0;
      ranges = p.1.1.1.1.0;
      protections = p.1.1.1.1.1.0;
      metadata = p.1.1.1.1.1.1;
    })
    (λ _. refl)

abbrev pub placed_code : Coded Placed
placed_code =
    code_by (ℕ × (ℕ × (List ℕ × (Bool × (ℕ × ℕ)))))
    (coded× coded_ℕ (coded× coded_ℕ (coded× (coded_list coded_ℕ) (coded× coded_bool (coded× coded_ℕ coded_ℕ)))))
    (λ s. (s.0, (s.1.id, (s.1.title, (s.1.hidden, (s.1.rows, s.1.cols))))))
    (λ p. (p.0, record { id = p.1.0; title = p.1.1.0; hidden = p.1.1.1.0; rows = p.1.1.1.1.0; cols = p.1.1.1.1.1 }))
    (λ _. refl)

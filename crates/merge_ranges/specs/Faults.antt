-- What is printed of a fault.
use Rattle.std.specs.Prelude.{ℕ, List, codes}
use Rattle.merge_ranges.specs.declared.fault.MergeFault.{MergeFault}
use Rattle.merge_ranges.specs.declared.fault.MergeFault.TheVariants.{Cut, NoMemory}

abbrev pub cut_text : List ℕ
cut_text = codes "a merge would be cut"

abbrev pub fault_text : MergeFault → List ℕ
fault_text Cut = cut_text
fault_text NoMemory = codes "no memory"

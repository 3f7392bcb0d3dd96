-- How the fault of a list is written.
use Rattle.std.specs.Prelude.{ℕ, List, codes}
use Rattle.fields.specs.declared.list.ListFault.{ListFault}
use Rattle.fields.specs.declared.list.ListFault.TheVariants.{Bad, Full}

abbrev pub list_fault_text : ListFault → List ℕ
list_fault_text Bad = codes "an item can't be read"
list_fault_text Full = codes "no room for one more item"

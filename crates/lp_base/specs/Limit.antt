-- The name of each limit.
use Rattle.std.specs.Prelude.{ℕ, List, codes}
use Rattle.lp_base.specs.declared.limit.Limit.{Limit}
use Rattle.lp_base.specs.declared.limit.Limit.TheVariants.{File, Image, Modules, Copies, Names, NameLength, Arguments, Nesting, NormalForm, Clauses, Registers, Text}

-- the bytes of a limit's name, as the program prints it
abbrev pub name_of : Limit → List ℕ
name_of File = codes "file"
name_of Image = codes "image"
name_of Modules = codes "modules"
name_of Copies = codes "copies"
name_of Names = codes "names"
name_of NameLength = codes "name length"
name_of Arguments = codes "arguments"
name_of Nesting = codes "nesting"
name_of NormalForm = codes "normal form"
name_of Clauses = codes "clauses"
name_of Registers = codes "registers"
name_of Text = codes "string"

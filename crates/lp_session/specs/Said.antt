-- The lines that a session writes by itself.
use Rattle.std.specs.Prelude.{ℕ, List, ◌++◌, codes, decimal}

unfoldable pub query_line : ℕ → List ℕ
query_line k = codes "query " ++ decimal k ++ codes "\n"

-- what stands at this column does not fit
unfoldable pub unexpected_line : ℕ → List ℕ
unexpected_line column = codes "source: query:1:" ++ decimal column ++ codes ": unexpected token\n"

-- the name at this column is no variable of the query
unfoldable pub undeclared_line : ℕ → List ℕ → List ℕ
undeclared_line column name = codes "source: query:1:" ++ decimal column ++ codes ": undeclared name " ++ name ++ codes "\n"

unfoldable pub summary_line : ℕ → ℕ → List ℕ
summary_line queries answers = codes "queries " ++ decimal queries ++ codes ", answers " ++ decimal answers ++ codes "\n"

-- Whether a limit is that on files.
use Rattle.std.proofs.Common.{◌≡◌, ◌≢◌, refl, inl, inr}
use Rattle.std.specs.Prelude.{◌⊎◌}
use Rattle.lp_base.specs.declared.limit.Limit.{Limit}
use Rattle.lp_base.specs.declared.limit.Limit.TheVariants as limit

pub is_file : (l : Limit) → (l ≡ limit.File) ⊎ (l ≢ limit.File)
is_file limit.File = inl refl
is_file limit.Image = inr (λ e. cc)
is_file limit.Modules = inr (λ e. cc)
is_file limit.Copies = inr (λ e. cc)
is_file limit.Names = inr (λ e. cc)
is_file limit.NameLength = inr (λ e. cc)
is_file limit.Arguments = inr (λ e. cc)
is_file limit.Nesting = inr (λ e. cc)
is_file limit.NormalForm = inr (λ e. cc)
is_file limit.Clauses = inr (λ e. cc)
is_file limit.Registers = inr (λ e. cc)
is_file limit.Text = inr (λ e. cc)

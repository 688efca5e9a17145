-- Which names are kept, each with its hidden number.
use Rattle.std.specs.Prelude.{◌≡◌, ℕ, Bool, List}
use Rattle.std.specs.List.{list_any}
use Rattle.std.specs.BTreeSet.{keys}
use Rattle.lp_code.specs.declared.object.ObjectConstant.{ObjectConstant}
use Rattle.lp_code.specs.declared.image.ImageConstant.{ImageConstant}
use Rattle.lp_object.specs.declared.names.Names.{Names}
use Rattle.lp_object.specs.Reading.{same_global}

abbrev pub knows : Names → List ℕ × ℕ → Bool
knows names n = list_any (λ k. same_global n (k.0.items, k.1)) (keys names.told)

abbrev pub Knows : Names → List (List ℕ × ℕ) → Type 0
Knows names before = (n : List ℕ × ℕ) → knows names n ≡ list_any (same_global n) before

abbrev pub object_constant_told : ObjectConstant → List ℕ × ℕ
object_constant_told c = (c.name.items, 0)

abbrev pub image_constant_told : ImageConstant → List ℕ × ℕ
image_constant_told c = (c.name.items, c.hidden)

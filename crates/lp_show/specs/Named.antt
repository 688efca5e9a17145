-- What the tables of names say of the glossary.
use Rattle.std.specs.Prelude.{◌≡◌, ◌<◌, ℕ, List, length, get_or, nat_eq}
use Rattle.std.specs.HashMap.{get}
use Rattle.indexmap.specs.IndexSet.{contains_by}
use Rattle.std.specs.Str.{bytes_eq}
use Rattle.lp_show.specs.declared.names.Names.{Names}
use Rattle.lp_show.specs.declared.names.Known.{Known}
use Rattle.lp_show.specs.Glossary.{entries_of, place_in}
use Rattle.lp_model.specs.Shown.{Entry, has_name, binder_number}

-- the glossary that the names are of
abbrev pub all : Names → List Entry
all names = entries_of names.entries.now

pub record IsReady (names : Names) : Type 0 where
  pub places : (c : ℕ) → get nat_eq names.places c ≡ place_in 0 names.entries.now c
  pub taken : (n : List ℕ) → contains_by (λ k. bytes_eq n k.items) names.taken ≡ has_name n (all names)

-- what is told of a constant is its entry
pub record IsKnown (known : Known) (e : Entry) : Type 0 where
  pub name : known.name.now ≡ e.name
  pub hidden : known.hidden ≡ e.hidden
  pub fixity : known.fixity ≡ e.fixity

-- the numbers of the first binders
abbrev pub AreBinders : List Entry → List ℕ → Type 0
AreBinders es binders = (i : ℕ) → i < length binders → get_or binders i 0 ≡ binder_number es i

-- The tables of an image in the making, and its records, copy by copy.
use Rattle.std.specs.Prelude.{◌≡◌, ℕ, ◌+◌, ◌<◌, min, List, [], ◌∷◌, ◌++◌, map, length, reverse, None, All}
use Rattle.lp_calculus.specs.Typing.{Scheme}
use Rattle.lp_lemmas.specs.Each.{EachOf}
use Rattle.lp_code.specs.declared.object.Object.{Object}
use Rattle.lp_code.specs.declared.image.ImageConstant.{ImageConstant}
use Rattle.lp_code.specs.declared.record.Record.{Record}
use Rattle.lp_code.specs.Naming.{object_arity, image_arity, scheme_in}
use Rattle.lp_link.specs.declared.image.Making.{Making}
use Rattle.lp_link.specs.declared.names.Open.{Open}
use Rattle.lp_link.specs.declared.names.Firsts.{Firsts}
use Rattle.lp_link.specs.declared.places.Member.{Member}
use Rattle.lp_link.specs.Linked.{Copy, Ends, copy_of, kinds_of, map_of, records_of}
use Rattle.lp_link.specs.Names.{exported_of, hidden_of, exported_types, hidden_types, of_copies, hidden_kind_rows, hidden_constant_rows}
use Rattle.lp_link.specs.Renumbering.{AllRecordsMoved}
use Rattle.lp_link.specs.inner.Parts.{AllHaveRoom, AddsMoved}
use Rattle.lp_link.specs.inner.Entering.{open_copy, AreToCome, IsSmall, ends_of}
use Rattle.lp_link.specs.inner.Named.{AreNamed, AddsHidden}

abbrev pub arities_of : Object → List ℕ
arities_of o = map object_arity o.kinds.items

-- the hidden names of copies, copy by copy
abbrev pub hidden_arities : List Copy → List ℕ
hidden_arities cs = of_copies (λ c. hidden_of (kinds_of c.object) (arities_of c.object)) cs

abbrev pub hidden_schemes : List Copy → List Scheme
hidden_schemes cs = of_copies hidden_types cs

-- the tables of a root with these copies
abbrev pub all_arities : (root : Copy) → List Copy → List ℕ
all_arities root cs = exported_of (kinds_of root.object) (arities_of root.object) ++ hidden_arities cs

abbrev pub all_schemes : (root : Copy) → List Copy → List Scheme
all_schemes root cs = exported_types root ++ hidden_schemes cs

-- the tables of the image so far
abbrev pub made_arities : Making → List ℕ
made_arities m = map image_arity m.kinds.items

abbrev pub made_schemes : Making → List Scheme
made_schemes m = map (λ (c : ImageConstant). scheme_in m.bank c.type_vars c.scheme.0) m.constants.items

-- their types stand in the bank
abbrev pub AreBanked : Making → Type 0
AreBanked m = All (λ (c : ImageConstant). c.scheme.0 < length m.bank.types) m.constants.items

-- entries were put behind those so far
pub record AddsTables (old new : Making) (arities : List ℕ) (schemes : List Scheme) : Type 0 where
  pub kinds : made_arities new ≡ made_arities old ++ arities
  pub constants : AreBanked old → made_schemes new ≡ made_schemes old ++ schemes
  pub banked : AreBanked old → AreBanked new

pub record AreTabled (root : Copy) (cs : List Copy) (m : Making) : Type 0 where
  pub kinds : made_arities m ≡ all_arities root cs
  pub constants : made_schemes m ≡ all_schemes root cs
  pub banked : AreBanked m
  pub names : AreNamed root cs m

-- the records of each copy stand behind those of the copies before it, n of them before all
abbrev pub AreRecords : (n : ℕ) → List Copy → List Record → Type 0
AreRecords n [] rs = rs ≡ []
AreRecords n (c ∷ cs) rs =
    (own : List Record) × (more : List Record) × (rs ≡ own ++ more) × (length own ≡ length (records_of c))
    × (EachOf (λ (r : Record). AllHaveRoom n r.code.items) (records_of c) → AllRecordsMoved (map_of n c) n (records_of c) own) × AreRecords (n + length (records_of c)) cs more

-- as far as 32 bits hold it
abbrev pub counted : ℕ → ℕ
counted n = min n 4294967295

-- a root is open, and its exported names stand in the tables
pub record IsBegun (m : Member) (firsts : Firsts) (made : Making) (around : List Open) : Type 0 where
  pub opened : Open
  pub inside : reverse around ≡ opened ∷ []
  pub of : opened.member.now ≡ m
  pub numbers : IsSmall (copy_of None m.object.now (ends_of firsts)) → open_copy opened ≡ copy_of None m.object.now (ends_of firsts)
  pub tables : AreTabled (open_copy opened) [] made

-- the innermost open copy was left: its hidden names and its records were put behind the others
pub record IsLeft (old new : Making) (records now : List Record) (c : Copy) : Type 0 where
  pub tables : AddsTables old new (hidden_of (kinds_of c.object) (arities_of c.object)) (hidden_types c)
  pub names : AddsHidden old new (hidden_kind_rows c.object) (hidden_constant_rows c.object)
  pub count : length now ≡ length records + length (records_of c)
  pub moved : AddsMoved (map_of (counted (length records)) c) (counted (length records)) (records_of c) records now

-- the image has the tables and the records of a root and the copies below it
pub record IsMade (root : Copy) (below : List Copy) (m : Making) (made : List Record) : Type 0 where
  pub tables : AreTabled root (below ++ root ∷ []) m
  pub records : AreRecords 0 (below ++ root ∷ []) made

-- what is made of a root and the copies below it, while some copies are open and some are to come
pub record IsComing (os : List Object) (frames : List (ℕ × ℕ)) (around : List Open) (coming : List Ends) (root : Copy) (below : List Copy) (m : Making) (made : List Record) : Type 0 where
  pub now : Ends
  pub done : List Copy
  pub to_come : AreToCome os now frames (map open_copy (reverse around)) coming done (below ++ root ∷ [])
  pub tables : AreTabled root done m
  pub records : AreRecords 0 done made

-- so many entries were put, and with the rest they are all
abbrev pub KindsSoFar : (old now : Making) → (rest all : List ℕ) → Type 0
KindsSoFar old now rest all = (ks : List ℕ) × AddsTables old now ks [] × (ks ++ rest ≡ all)

abbrev pub ConstantsSoFar : (old now : Making) → (rest all : List Scheme) → Type 0
ConstantsSoFar old now rest all = (ss : List Scheme) × AddsTables old now [] ss × (ss ++ rest ≡ all)

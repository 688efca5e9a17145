-- What the tables of names hold, one more announcement after the other.
use Rattle.std.proofs.Common.{◌≡◌, ℕ, suc, ◌+◌, ◌<◌, List, [], ◌∷◌, ◌++◌, true, false, length, take, get_or, arith, map, Option, Some, None, refl, sym, ap, subst, ◌∙◌}
use Rattle.std.specs.Prelude.{if◌then◌else◌, is_some, ◌||◌}
use Rattle.lp_sig.specs.Places.{HasPlaces, first_place}
use Rattle.lp_sig.specs.Rows.{Row, found, kind_row, fixity_row}
use Rattle.lp_sig.specs.Standard.{standard_kinds}
use Rattle.lp_sig.specs.Said.{Said, a_kind, an_abbreviation, is_among, names_in, numbered, firsts, declared_names, kinds_among, abbreviations_among}
use Rattle.lp_sig.specs.Knowing.{Knows, KnowsOperators, is_known, kinded_row, head_row}
use Rattle.lp_standard.specs.declared.fixity.Fixity.{Fixity}
use Rattle.std.proofs.lemmas.Grind.{common_steps}
use Rattle.std.proofs.lemmas.List.{map-append, take_more}
use Rattle.lp_sig.specs.declared.entries.KindEntry.{KindEntry}
use Rattle.lp_sig.specs.declared.names.Names.{Names}
use Rattle.lp_sig.specs.declared.names.Kinded.{Kinded}
use Rattle.lp_sig.specs.declared.operators.Operators.{Operators}
use Rattle.lp_sig.proofs.Firsts.{firsts_more, firsts_names, among_parts, place_among, found_among}

pub names_of : {A B : Type 0} (name : A → List ℕ) (beside : A → B) (xs : List A) → names_in (map (λ x. (name x, beside x)) xs) ≡ map name xs
names_of name beside [] = refl
names_of name beside (x ∷ xs) = ap (λ z. name x ∷ z) (names_of name beside xs)

known_names : (name : List ℕ) (said : List (Row Said)) → is_known name said ≡ (is_among name (names_in standard_kinds) || (is_among name (names_in (abbreviations_among (declared_names said))) || is_among name (names_in (kinds_among (declared_names said)))))
known_names name said =
    sym (firsts_names name (names_in standard_kinds) said) ∙ ap (λ b. is_among name (names_in standard_kinds) || b) (among_parts name (declared_names said))

-- a name is known where it is standard, an abbreviation or a kind
pub known_is : (names : Names) (said : List (Row Said)) (name : List ℕ) → Knows names said →
    is_known name said ≡ (is_among name (names_in standard_kinds) || (is_some (first_place name (map (λ h. h.name.items) names.heads.items)) || is_some (first_place name (map (λ k. k.name.items) names.kinds.items))))
known_is names said name k =
    known_names name said ∙
    ap (λ b. is_among name (names_in standard_kinds) || (is_among name (names_in b) || is_among name (names_in (kinds_among (declared_names said))))) (sym k.heads) ∙
    ap (λ b. is_among name (names_in standard_kinds) || (is_among name (names_in (map head_row names.heads.items)) || is_among name (names_in b))) (sym k.kinds) ∙
    ap (λ b. is_among name (names_in standard_kinds) || (is_among name b || is_among name (names_in (map kinded_row names.kinds.items)))) (names_of (λ h. h.name.items) (λ h. h.parameters) names.heads.items) ∙
    ap (λ b. is_among name (names_in standard_kinds) || (is_among name (map (λ h. h.name.items) names.heads.items) || is_among name b)) (names_of (λ k. k.name.items) (λ k. k.arity) names.kinds.items) ∙
    ap (λ b. is_among name (names_in standard_kinds) || (b || is_among name (map (λ k. k.name.items) names.kinds.items))) (sym (place_among name (map (λ h. h.name.items) names.heads.items))) ∙
    ap (λ b. is_among name (names_in standard_kinds) || (is_some (first_place name (map (λ h. h.name.items) names.heads.items)) || b)) (sym (place_among name (map (λ k. k.name.items) names.kinds.items)))

-- the ends of a look-up of a name that is not standard
module _ (names : Names) (said : List (Row Said)) (name : List ℕ) (k : Knows names said) (standard : None ≡ found name standard_kinds) where
  known_parts : (h p : Option ℕ) → h ≡ first_place name (map (λ h. h.name.items) names.heads.items) → p ≡ first_place name (map (λ k. k.name.items) names.kinds.items) → is_known name said ≡ (is_some h || is_some p)
  known_parts h p a b =
      known_is names said name k ∙ ap (λ t. t || (is_some (first_place name (map (λ h. h.name.items) names.heads.items)) || is_some (first_place name (map (λ k. k.name.items) names.kinds.items)))) (sym (found_among name standard_kinds) ∙ ap is_some (sym standard)) ∙
      ap (λ o. is_some o || is_some (first_place name (map (λ k. k.name.items) names.kinds.items))) (sym a) ∙ ap (λ o. is_some h || is_some o) (sym b)

  pub means_head : (h : Option ℕ) (i : ℕ) → h ≡ Some i → h ≡ first_place name (map (λ h. h.name.items) names.heads.items) → true ≡ is_known name said
  means_head h i some a = sym (known_parts h (first_place name (map (λ k. k.name.items) names.kinds.items)) a refl ∙ ap (λ o. is_some o || is_some (first_place name (map (λ k. k.name.items) names.kinds.items))) some)

  pub means_kind : (h p : Option ℕ) (i : ℕ) → h ≡ None → h ≡ first_place name (map (λ h. h.name.items) names.heads.items) → p ≡ Some i → p ≡ first_place name (map (λ k. k.name.items) names.kinds.items) → true ≡ is_known name said
  means_kind h p i none a some b = sym (known_parts h p a b ∙ ap (λ o. is_some o || is_some p) none ∙ ap is_some some)

  pub means_nothing : (h p : Option ℕ) → h ≡ None → h ≡ first_place name (map (λ h. h.name.items) names.heads.items) → p ≡ None → p ≡ first_place name (map (λ k. k.name.items) names.kinds.items) → false ≡ is_known name said
  means_nothing h p none a nothing b = sym (known_parts h p a b ∙ ap (λ o. is_some o || is_some p) none ∙ ap is_some nothing)

kind_behind : (rows : List (Row Said)) (n : List ℕ) (c : ℕ) → kinds_among (rows ++ (n, a_kind c) ∷ []) ≡ kinds_among rows ++ (n, c) ∷ []
kind_behind [] n c = refl
kind_behind ((m, a_kind d) ∷ rs) n c = ap (λ z. (m, d) ∷ z) (kind_behind rs n c)
kind_behind ((m, an_abbreviation p) ∷ rs) n c = kind_behind rs n c

no_head_behind : (rows : List (Row Said)) (n : List ℕ) (c : ℕ) → abbreviations_among (rows ++ (n, a_kind c) ∷ []) ≡ abbreviations_among rows
no_head_behind [] n c = refl
no_head_behind ((m, a_kind d) ∷ rs) n c = no_head_behind rs n c
no_head_behind ((m, an_abbreviation p) ∷ rs) n c = ap (λ z. (m, p) ∷ z) (no_head_behind rs n c)

head_behind : (rows : List (Row Said)) (n : List ℕ) (p : ℕ) → abbreviations_among (rows ++ (n, an_abbreviation p) ∷ []) ≡ abbreviations_among rows ++ (n, p) ∷ []
head_behind [] n p = refl
head_behind ((m, a_kind d) ∷ rs) n p = head_behind rs n p
head_behind ((m, an_abbreviation q) ∷ rs) n p = ap (λ z. (m, q) ∷ z) (head_behind rs n p)

no_kind_behind : (rows : List (Row Said)) (n : List ℕ) (p : ℕ) → kinds_among (rows ++ (n, an_abbreviation p) ∷ []) ≡ kinds_among rows
no_kind_behind [] n p = refl
no_kind_behind ((m, a_kind d) ∷ rs) n p = ap (λ z. (m, d) ∷ z) (no_kind_behind rs n p)
no_kind_behind ((m, an_abbreviation q) ∷ rs) n p = no_kind_behind rs n p

declared_again : (said : List (Row Said)) (r : Row Said) → is_known r.0 said ≡ true → declared_names (said ++ r ∷ []) ≡ declared_names said
declared_again said r h = firsts_more (names_in standard_kinds) said r ∙ ap (λ t. if t then declared_names said else declared_names said ++ r ∷ []) h

pub declared_new : (said : List (Row Said)) (r : Row Said) → is_known r.0 said ≡ false → declared_names (said ++ r ∷ []) ≡ declared_names said ++ r ∷ []
declared_new said r h = firsts_more (names_in standard_kinds) said r ∙ ap (λ t. if t then declared_names said else declared_names said ++ r ∷ []) h

-- a name that has a meaning keeps it
pub said_again : (names : Names) (said : List (Row Said)) (r : Row Said) → is_known r.0 said ≡ true → Knows names said → Knows names (said ++ r ∷ [])
said_again names said r h k = record {
  kinds = k.kinds ∙ ap kinds_among (sym (declared_again said r h));
  heads = k.heads ∙ ap abbreviations_among (sym (declared_again said r h));
  kind_places = k.kind_places;
  head_places = k.head_places;
}

pub new_kind : (old new : Names) (said : List (Row Said)) (n : List ℕ) (c : ℕ) → is_known n said ≡ false → map kinded_row new.kinds.items ≡ map kinded_row old.kinds.items ++ (n, c) ∷ [] → new.heads ≡ old.heads → new.head_places ≡ old.head_places →
    (HasPlaces old.kind_places (map (λ k. k.name.items) old.kinds.items) → HasPlaces new.kind_places (map (λ k. k.name.items) new.kinds.items)) → Knows old said → Knows new (said ++ (n, a_kind c) ∷ [])
new_kind old new said n c h kinds heads places found k = record {
  kinds = kinds ∙ ap (λ z. z ++ (n, c) ∷ []) k.kinds ∙ sym (kind_behind (declared_names said) n c) ∙ ap kinds_among (sym (declared_new said (n, a_kind c) h));
  heads = ap (λ v. map head_row v.items) heads ∙ k.heads ∙ sym (no_head_behind (declared_names said) n c) ∙ ap abbreviations_among (sym (declared_new said (n, a_kind c) h));
  kind_places = found k.kind_places;
  head_places = subst (λ v. HasPlaces new.head_places (map (λ h. h.name.items) v.items)) (sym heads) (subst (λ p. HasPlaces p (map (λ h. h.name.items) old.heads.items)) (sym places) k.head_places);
}

pub new_head : (old new : Names) (said : List (Row Said)) (n : List ℕ) (p : ℕ) → is_known n said ≡ false → map head_row new.heads.items ≡ map head_row old.heads.items ++ (n, p) ∷ [] → new.kinds ≡ old.kinds → new.kind_places ≡ old.kind_places →
    (HasPlaces old.head_places (map (λ h. h.name.items) old.heads.items) → HasPlaces new.head_places (map (λ h. h.name.items) new.heads.items)) → Knows old said → Knows new (said ++ (n, an_abbreviation p) ∷ [])
new_head old new said n p h heads kinds places found k = record {
  kinds = ap (λ v. map kinded_row v.items) kinds ∙ k.kinds ∙ sym (no_kind_behind (declared_names said) n p) ∙ ap kinds_among (sym (declared_new said (n, an_abbreviation p) h));
  heads = heads ∙ ap (λ z. z ++ (n, p) ∷ []) k.heads ∙ sym (head_behind (declared_names said) n p) ∙ ap abbreviations_among (sym (declared_new said (n, an_abbreviation p) h));
  kind_places = subst (λ v. HasPlaces new.kind_places (map (λ h. h.name.items) v.items)) (sym kinds) (subst (λ p. HasPlaces p (map (λ h. h.name.items) old.kinds.items)) (sym places) k.kind_places);
  head_places = found k.head_places;
}

operator_names : (operators : Operators) (said : List (Row (Fixity × ℕ))) (name : List ℕ) → KnowsOperators operators said → is_among name (names_in said) ≡ is_some (first_place name (map (λ e. e.name.items) operators.fixities.items))
operator_names operators said name k =
    sym (firsts_names name [] said) ∙ ap (λ rows. is_among name (names_in rows)) (sym k.rows) ∙ ap (is_among name) (names_of (λ e. e.name.items) (λ e. (e.fixity, e.number)) operators.fixities.items) ∙ sym (place_among name (map (λ e. e.name.items) operators.fixities.items))

-- an operator that is declared again keeps its fixity
pub operator_again : (operators : Operators) (said : List (Row (Fixity × ℕ))) (r : Row (Fixity × ℕ)) → is_some (first_place r.0 (map (λ e. e.name.items) operators.fixities.items)) ≡ true → KnowsOperators operators said → KnowsOperators operators (said ++ r ∷ [])
operator_again operators said r h k = record {
  rows = k.rows ∙ sym (firsts_more [] said r ∙ ap (λ t. if t then firsts [] said else firsts [] said ++ r ∷ []) (operator_names operators said r.0 k ∙ h));
  places = k.places;
}

pub operator_new : (old new : Operators) (said : List (Row (Fixity × ℕ))) (r : Row (Fixity × ℕ)) → is_some (first_place r.0 (map (λ e. e.name.items) old.fixities.items)) ≡ false → map fixity_row new.fixities.items ≡ map fixity_row old.fixities.items ++ r ∷ [] →
    HasPlaces new.places (map (λ e. e.name.items) new.fixities.items) → KnowsOperators old said → KnowsOperators new (said ++ r ∷ [])
operator_new old new said r h rows found k = record {
  rows = rows ∙ ap (λ z. z ++ r ∷ []) k.rows ∙ sym (firsts_more [] said r ∙ ap (λ t. if t then firsts [] said else firsts [] said ++ r ∷ []) (operator_names old said r.0 k ∙ h));
  places = found;
}

numbered_more : (n : ℕ) (rows : List (Row ℕ)) (r : Row ℕ) → numbered n (rows ++ r ∷ []) ≡ numbered n rows ++ (r.0, (n + length rows, r.1)) ∷ []
numbered_more n [] r = let z : n ≡ n + 0 = omega arith in ap (λ n. (r.0, (n, r.1)) ∷ []) z
numbered_more n (x ∷ xs) r =
    let z : suc n + length xs ≡ n + suc (length xs) = omega arith in
    ap (λ z. (x.0, (n, x.1)) ∷ z) (numbered_more (suc n) xs r ∙ ap (λ m. numbered (suc n) xs ++ (r.0, (m, r.1)) ∷ []) z)

-- one more kind with its number
pub entry_more : (kinds : List Kinded) (i : ℕ) (k : Kinded) (now new : List KindEntry) (e : KindEntry) → i < length kinds → k ≡ get_or kinds i k → map kind_row now ≡ numbered 8 (map kinded_row (take i kinds)) → new ≡ now ++ e ∷ [] →
    kind_row e ≡ (k.name.items, (8 + i, k.arity)) → map kind_row new ≡ numbered 8 (map kinded_row (take (i + 1) kinds))
entry_more kinds i k now new e h is so more this =
    let rows = map kinded_row (take i kinds) in
    let l : i ≡ length rows = grind (arith, common_steps) in
    ap (map kind_row) more ∙ map-append kind_row now (e ∷ []) ∙ ap (λ z. z ++ kind_row e ∷ []) so ∙ ap (λ z. numbered 8 rows ++ z ∷ []) (this ∙ ap (λ n. (k.name.items, (8 + n, k.arity))) l) ∙
    sym (numbered_more 8 rows (kinded_row k)) ∙ ap (numbered 8) (ap (λ x. rows ++ kinded_row x ∷ []) is ∙ sym (map-append kinded_row (take i kinds) (get_or kinds i k ∷ [])) ∙ ap (map kinded_row) (sym (take_more kinds i k h)))

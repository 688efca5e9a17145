-- An annotation means one type.
use Rattle.std.proofs.Common.{◌≡◌, ℕ, List, refl, sym, ap, ◌∙◌, Option, Some, None}
use Rattle.std.specs.Prelude.{slice_get}
use Rattle.lp_sig.proofs.Instances.{two_sides}
use Rattle.lp_lemmas.proofs.Lists.{cons_equal}
use Rattle.lp_lemmas.proofs.Options.{one_value}
use Rattle.lp_calculus.specs.Types.{Ty}
use Rattle.lp_syntax.specs.declared.text.RawType.{RawType}
use Rattle.lp_syntax.specs.declared.text.RawTypeNode.{RawTypeNode}
use Rattle.lp_syntax.specs.declared.text.RawTypeNode.TheVariants.{Word, Arrow}
use Rattle.lp_sig.specs.declared.signature.Signature.{Signature}
use Rattle.lp_infer.specs.Texts.{Notes, word_type, Means, word, function, AllMean, no_parts, more_parts, IsNoted}

module _ (sig : Signature) (text : List ℕ) (κ : Notes) (nodes : List RawTypeNode) where
  mutual
    pub means_once : {n m : ℕ} {A B : Ty} → n ≡ m → Means sig text κ nodes n A → Means sig text κ nodes m B → A ≡ B
    means_once i (word n s ps Ts A at below parts is) (word m t qs Us B at' below' parts' is') =
        let e : Word s ps ≡ Word t qs = one_value (slice_get nodes n) (Word s ps) (Word t qs) at (ap (slice_get nodes) i ∙ at') in
        let f : s ≡ t = cc in
        let g : ps ≡ qs = cc in
        let h : Ts ≡ Us = all_mean_once (ap (λ v. v.items) g) parts parts' in
        one_value (word_type sig text κ t Us) A B (sym (ap (λ r. word_type sig text κ r Us) f) ∙ sym (ap (λ ts. word_type sig text κ s ts) h) ∙ is) is'
    means_once i (word n s ps Ts A at below parts is) (function m a b C D at' la lb ma mb) =
        let e : Word s ps ≡ Arrow a b = one_value (slice_get nodes n) (Word s ps) (Arrow a b) at (ap (slice_get nodes) i ∙ at') in absurd (cc)
    means_once i (function n a b C D at la lb ma mb) (word m s ps Ts A at' below parts is) =
        let e : Arrow a b ≡ Word s ps = one_value (slice_get nodes n) (Arrow a b) (Word s ps) at (ap (slice_get nodes) i ∙ at') in absurd (cc)
    means_once i (function n a b A B at la lb ma mb) (function m c d C D at' lc ld mc md) =
        let e : Arrow a b ≡ Arrow c d = one_value (slice_get nodes n) (Arrow a b) (Arrow c d) at (ap (slice_get nodes) i ∙ at') in
        let f : a ≡ c = cc in
        let g : b ≡ d = cc in
        two_sides A C B D (means_once f ma mc) (means_once g mb md)

    all_mean_once : {ns ms : List ℕ} {As Bs : List Ty} → ns ≡ ms → AllMean sig text κ nodes ns As → AllMean sig text κ nodes ms Bs → As ≡ Bs
    all_mean_once e no_parts no_parts = refl
    all_mean_once e no_parts (more_parts m ms B Bs b more) = absurd (cc)
    all_mean_once e (more_parts n ns A As a rest) no_parts = absurd (cc)
    all_mean_once e (more_parts n ns A As a rest) (more_parts m ms B Bs b more) =
        let f : n ≡ m = cc in
        let g : ns ≡ ms = cc in
        cons_equal A B As Bs (means_once f a b) (all_mean_once g rest more)

given_same : (A B : Ty) (g h : Option Ty) → g ≡ Some A → h ≡ Some B → A ≡ B → g ≡ h
given_same A B g h e f same = e ∙ ap (λ T. Some T) same ∙ sym f

pub noted_once : (sig : Signature) (text : List ℕ) (κ : Notes) (note : Option RawType) (g h : Option Ty) → IsNoted sig text κ note g → IsNoted sig text κ note h → g ≡ h
noted_once sig text κ None g h a b = a ∙ sym b
noted_once sig text κ (Some note) g h a b = given_same a.0 b.0 g h a.1 b.1 (means_once sig text κ note.nodes.items refl a.2 b.2)

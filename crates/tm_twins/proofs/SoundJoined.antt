-- Each circuit has a joined circuit, and that of a sound circuit is sound.
use Rattle.std.proofs.Common.{◌≡◌, ◌≢◌, ℕ, zero, suc, ◌<◌, ◌≤◌, inl, inr, Bool, List, [], ◌∷◌, map, length, Some, slice_get, Contains, refl, sym, ◌∙◌, ap, subst, arith}
use Rattle.std.specs.Prelude.{AllPairs}
use Rattle.std.proofs.lemmas.Option.{slice_get_within}
use Rattle.tm_circuit.specs.Plain.{Plain, Drive, input, latch, gate, drive_in, input_count, latch_count, gate_count, greatest}
use Rattle.tm_circuit.specs.Chain.{RisesTo, rank, depth, depth_by, depth_within}
use Rattle.tm_circuit.specs.Sound.{IsSound, IsPlaced}
use Rattle.tm_twins.specs.Twins.{IsWord, IsTwin, AreTwins}
use Rattle.tm_twins.specs.Joined.{joined_drive, IsJoined}
use Rattle.tm_twins.proofs.SomeTwin.{some_twin}
use Rattle.tm_twins.proofs.Growing.{placed_joined}
use Rattle.tm_twins.proofs.JoinedLemmas.{drive_joined, joined_large}
use Rattle.tm_twins.proofs.Soundness.{joined_in_range, joined_well_named, joined_distinctly_named, joined_rises}

pub some_joined : (c : Plain) → (joined : Plain) × IsJoined c joined
some_joined c =
    let twin : ℕ → ℕ = λ s. (some_twin c.drives s).0 in (
      record {
        model = c.model;
        clock = c.clock;
        names = c.names;
        drives = map (joined_drive (λ s. (some_twin c.drives s).0)) c.drives;
        outputs = c.outputs;
      },
      record {
        model = refl;
        clock = refl;
        names = refl;
        outputs = refl;
        drives = (λ s. (some_twin c.drives s).0, λ s. (some_twin c.drives s).1, refl);
      },
    )

-- ---- depths

-- A latch has depth 0, however far it is followed.
latch_depth : (ds : List Drive) (n s next : ℕ) (init : Bool) → drive_in ds s ≡ latch next init → depth_within n ds s ≡ 0
latch_depth ds zero s next init is = refl
latch_depth ds (suc n) s next init is = ap (λ d. depth_by (λ p. depth_within n ds p) d) is

-- Signals of the same word are as deep.
word_depth : (ds : List Drive) (n s t : ℕ) (w : List Bool) (e : ℕ) → IsWord ds s w e → IsWord ds t w e
    → depth_within n ds t ≡ depth_within n ds s
word_depth ds n s t [] e hs ht = ap (λ x. depth_within n ds x) (ht.0 ∙ sym hs.0)
word_depth ds n s t (i ∷ w) e hs ht = latch_depth ds n t ht.0 i ht.1 ∙ sym (latch_depth ds n s hs.0 i hs.1)

twin_depth : (ds : List Drive) (n s t : ℕ) → IsTwin ds s t → depth_within n ds t ≡ depth_within n ds s
twin_depth ds n s t twin =
    elim twin.equal [
      | inl own ↦ ap (λ x. depth_within n ds x) own
      | inr (w, (e, hs, ht)) ↦ word_depth ds n s t w e hs ht
    ]

depths_joined : (twin f g : ℕ → ℕ) → ((p : ℕ) → f (twin p) ≡ g p) → (pins : List ℕ) → map f (map twin pins) ≡ map g pins
depths_joined twin f g same [] = refl
depths_joined twin f g same (p ∷ pins) =
    let here : f (twin p) ≡ g p = same p in
    let rest : map f (map twin pins) ≡ map g pins = depths_joined twin f g same pins in
    cc

depth_by_joined : (twin f g : ℕ → ℕ) → ((p : ℕ) → f (twin p) ≡ g p) → (d : Drive) → depth_by f (joined_drive twin d) ≡ depth_by g d
depth_by_joined twin f g same input = refl
depth_by_joined twin f g same (latch next init) = refl
depth_by_joined twin f g same (gate pins cover) = ap (λ ns. suc (greatest ns)) (depths_joined twin f g same pins)

-- A signal is as deep in the joined drives.
depth_joined : (ds : List Drive) (twin : ℕ → ℕ) → AreTwins ds twin → (n s : ℕ)
    → depth_within n (map (joined_drive twin) ds) s ≡ depth_within n ds s
depth_joined ds twin twins zero s = refl
depth_joined ds twin twins (suc n) s =
    ap (λ d. depth_by (λ p. depth_within n (map (joined_drive twin) ds) p) d) (drive_joined ds twin twins s)
    ∙ depth_by_joined twin (λ p. depth_within n (map (joined_drive twin) ds) p) (λ p. depth_within n ds p)
    (λ p. depth_joined ds twin twins n (twin p) ∙ twin_depth ds n p (twin p) (twins p)) (drive_in ds s)

rank_joined : (c j : Plain) → IsJoined c j → (s : ℕ) → rank c s ≡ rank j s
unfolding depth
rank_joined c j joined s =
    let (twin, twins, drives) = joined.drives in
    let as_long : length j.drives ≡ length c.drives = (joined_large c j joined).signals in
    sym (ap (λ n. depth_within n j.drives s) as_long
    ∙ (ap (λ (ds : List Drive). depth_within (length c.drives) ds s) drives
    ∙ depth_joined c.drives twin twins (length c.drives) s))

rises_same : (f g : ℕ → ℕ) → ((s : ℕ) → f s ≡ g s) → (s : ℕ) (d : Drive) → RisesTo f s d → RisesTo g s d
rises_same f g same s input rises = sym (same s) ∙ rises
rises_same f g same s (latch next init) rises = sym (same s) ∙ rises
rises_same f g same s (gate pins cover) rises = λ p inside.
    let low : f p < f s = rises p inside in
    let at_p : f p ≡ g p = same p in
    let at_s : f s ≡ g s = same s in
    omega arith

-- ---- the whole

map_got : (f : Drive → Drive) (ds : List Drive) (s : ℕ) (d : Drive) → slice_get (map f ds) s ≡ Some d
    → (e : Drive) × (slice_get ds s ≡ Some e) × (f e ≡ d)
map_got f [] s d is =
    let inside : s < 0 = slice_get_within [] s d is in
    absurd (omega arith)
map_got f (x ∷ ds) zero d is =
    let same : f x ≡ d = cc in
    (x, refl, same)
map_got f (x ∷ ds) (suc s) d is = map_got f ds s d is

joined_placed : (c j : Plain) → IsJoined c j → IsSound c → (s : ℕ) (d : Drive) → slice_get j.drives s ≡ Some d
    → IsPlaced (input_count j.drives) (latch_count j.drives) s d
joined_placed c j joined sound s d is =
    let (twin, twins, drives) = joined.drives in
    let large = joined_large c j joined in
    let (e, there, made) = map_got (joined_drive twin) c.drives s d (sym (ap (λ (ds : List Drive). slice_get ds s) drives) ∙ is) in
    let placed : IsPlaced (input_count c.drives) (latch_count c.drives) s d =
    subst (λ (x : Drive). IsPlaced (input_count c.drives) (latch_count c.drives) s x) made
    (placed_joined twin (input_count c.drives) (latch_count c.drives) s e (sound.placed s e there)) in
    subst (λ (n : ℕ). IsPlaced n (latch_count j.drives) s d) (sym large.inputs)
    (subst (λ (n : ℕ). IsPlaced (input_count c.drives) n s d) (sym large.latches) placed)

pub joined_sound : (c j : Plain) → IsSound c → IsJoined c j → IsSound j
joined_sound c j sound joined =
    let large = joined_large c j joined in
    let as_long : length j.drives ≡ length c.drives = large.signals in
    let few : length c.drives ≤ 900000 = sound.few in
    record {
      few = omega arith;
      named = ap length joined.names ∙ (sound.named ∙ sym as_long);
      placed = joined_placed c j joined sound;
      range = joined_in_range c j joined sound.range;
      names = joined_well_named c j joined sound.names;
      distinct = joined_distinctly_named c j joined sound.distinct;
      outputs = subst (λ (xs : List ℕ). AllPairs (λ a b. a ≢ b) xs) (sym joined.outputs) sound.outputs;
      ranked = record {
        rises = λ s. rises_same (rank c) (rank j) (rank_joined c j joined) s (drive_in j.drives s) (joined_rises c j joined sound s);
      };
      bounded = λ s.
          let low : rank c s ≤ gate_count c.drives = sound.bounded s in
          let same : rank c s ≡ rank j s = rank_joined c j joined s in
          let gates : gate_count j.drives ≡ gate_count c.drives = large.gates in
          omega arith;
    }

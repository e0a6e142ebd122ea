-- What a `Work` keeps, from change to change.
use Rattle.std.proofs.Common.{◌≡◌, ℕ, ◌<◌, Bool, true, List, [], length, get_or, Option, Some, sym, ◌∙◌, ap, subst, arith}
use Rattle.std.specs.Prelude.{All, Contains, Result, is_ok, slice_set, map, ◌++◌, ◌∷◌, if◌then◌else◌}
use Rattle.std.specs.declared.alloc.AllocFailed.{AllocFailed}
use Rattle.std.proofs.lemmas.Bool.{cond-true}
use Rattle.std.proofs.lemmas.List.{set-set, set-get_or, map_push}
use Rattle.std.proofs.lemmas.List.Elements.{Contains-get_or}
use Rattle.tm_circuit.specs.Plain.{Plain}
use Rattle.tm_circuit.specs.Sound.{IsSound}
use Rattle.tm_flow.specs.Lists.{lists_in}
use Rattle.tm_unroll.specs.declared.node.Node.{Node}
use Rattle.tm_unroll.specs.Nodes.{node_at}
use Rattle.tm_unroll.proofs.LeafLemmas.{reached_inside}
use Rattle.tm_unroll.proofs.JudgeLemmas.{gate_within}
use Rattle.tm_replay.specs.declared.label.Label.{Label}
use Rattle.tm_replay.specs.declared.label.Lowering.{Lowering}
use Rattle.tm_replay.specs.Labels.{label_in}
use Rattle.tm_replay.specs.Replays.{Drop, drop_of, IsLawfulDrop}
use Rattle.tm_merge.specs.Cuts.{IsCutWithin, HaveCovers}
use Rattle.tm_labels.specs.Marks.{is_marked}
use Rattle.tm_replay.specs.Labels.{first_labels}
use Rattle.tm_inherit.specs.declared.refusal.Refusal.{Refusal}
use Rattle.tm_inherit.specs.Refusals.{HasBarrier, IsRefusal}
use Rattle.tm_inherit.proofs.StandLemmas.{stands_all}
use Rattle.tm_labels.specs.Settled.{LeadTo}
use Rattle.tm_labels.specs.Steps.{HaveBarriers}
use Rattle.tm_labels.specs.Watched.{AreLate}
use Rattle.tm_labels.specs.Working.{Working, IsWorking, IsLowering, IsSameWork}
use Rattle.tm_labels.specs.Keeping.{FitLabels, Keeps, working_of, IsKept}
use Rattle.tm_labels.specs.declared.work.Work.TheInside.{Inside}
use Rattle.tm_labels.proofs.MarkLemmas.{marked_within}

-- What is kept shows in what is told.
pub is_working : (a : Inside) → IsKept a → IsWorking (working_of a)
is_working a kept = record { sized = kept.keeps.sized.labels_sized; cuts_sized = kept.leaves_sized; led = kept.keeps.led; cuts = kept.keeps.cuts; none = kept.keeps.none }

-- The same, where lists have other names.
pub keeps_as : (base : ℕ) (c c' : Plain) (k d target : ℕ) (counts queued queued' : List Bool) (labels : List (Option Label)) (drops : List Drop) (leaves leaves' : List (List Node)) (stale stale' : List Bool)
    → c' ≡ c → queued' ≡ queued → leaves' ≡ leaves → stale' ≡ stale → Keeps base c k d target counts queued labels drops leaves stale
    → Keeps base c' k d target counts queued' labels drops leaves' stale'
keeps_as base c c' k d target counts queued queued' labels drops leaves leaves' stale stale' circuit waits cuts marks keeps =
    subst (λ (x : Plain). Keeps base x k d target counts queued' labels drops leaves' stale') (sym circuit)
    (subst (λ (q : List Bool). Keeps base c k d target counts q labels drops leaves' stale') (sym waits)
    (subst (λ (ls : List (List Node)). Keeps base c k d target counts queued labels drops ls stale') (sym cuts)
    (subst (λ (ms : List Bool). Keeps base c k d target counts queued labels drops leaves ms) (sym marks) keeps)))

pub covers_as : (c c' : Plain) (k : ℕ) (labels labels' : List (Option Label)) (leaves leaves' : List (List Node)) (stale stale' : List Bool)
    → c' ≡ c → labels' ≡ labels → leaves' ≡ leaves → stale' ≡ stale → HaveCovers c k labels (λ g. is_marked stale g ≡ true) leaves → HaveCovers c' k labels' (λ g. is_marked stale' g ≡ true) leaves'
covers_as c c' k labels labels' leaves leaves' stale stale' circuit same cuts marks covers =
    subst (λ (x : Plain). HaveCovers x k labels' (λ g. is_marked stale' g ≡ true) leaves') (sym circuit)
    (subst (λ (xs : List (Option Label)). HaveCovers c k xs (λ g. is_marked stale' g ≡ true) leaves') (sym same)
    (subst (λ (ls : List (List Node)). HaveCovers c k labels (λ g. is_marked stale' g ≡ true) ls) (sym cuts)
    (subst (λ (ms : List Bool). HaveCovers c k labels (λ g. is_marked ms g ≡ true) leaves) (sym marks) covers)))

-- The leaves of a cut are signals.
pub cut_within : (base : ℕ) (c : Plain) (k d target : ℕ) (labels : List (Option Label)) (g : ℕ) (x : Label) (within : ℕ) (leaves : List Node) → IsSound c → FitLabels c d target labels → label_in labels g ≡ Some x
    → IsCutWithin base c k labels within (node_at x.lag g) leaves → (y : Node) → Contains leaves y → y.signal < length c.drives
cut_within base c k d target labels g x within leaves sound fit has cut y leaf =
    (reached_inside c (node_at x.lag g) y sound (gate_within c.drives g (fit g x has).0) (cut.covers.reached y leaf)).signal

-- A refusal of a gate at its label makes a lawful drop.
pub lawful_drop : (base : ℕ) (c : Plain) (k d target : ℕ) (labels : List (Option Label)) (g : ℕ) (x : Label) (refusal : Refusal) → FitLabels c d target labels → label_in labels g ≡ Some x
    → IsRefusal base c k labels x.arrival target (node_at x.lag g) refusal
    → IsLawfulDrop base c k target labels (record { gate = g; lag = x.lag; arrival = refusal.arrival; walks = lists_in refusal.walks.items })
lawful_drop base c k d target labels g x refusal fit has is =
    let fits = fit g x has in
    let some = fits.1.some in
    let least = is.least in
    record {
      order = record { gate = fits.0; some = omega (arith, some, least); most = is.most; arrived = x.arrival; now = has; least = least };
      barrier = is.barrier;
    }

-- Those that are late are signals.
pub late_within : (base : ℕ) (c : Plain) (labels : List (Option Label)) (counts queued : List Bool) (leaves : List (List Node)) (u n : ℕ) (late seen : List ℕ) → length counts ≡ n → seen ≡ late
    → AreLate base c labels counts queued leaves u late → All (λ g. g < n) seen
late_within base c labels counts queued leaves u n late seen sized same are i d low =
    let g : ℕ = get_or seen i d in
    let found = are.only g (subst (λ (gs : List ℕ). Contains gs g) same (Contains-get_or seen i d low)) in
    let within = marked_within counts g found.1.counted in
    omega (arith, within, sized)

-- A settling with another queue, which is the same one.
abbrev pub with_queue : Working → List Bool → Working
with_queue w q = record { base = w.base; circuit = w.circuit; k = w.k; d = w.d; target = w.target; counts = w.counts; labels = w.labels; drops = w.drops; queued = q; cuts = w.cuts }

pub requeued : (w : Working) (q : List Bool) → q ≡ w.queued → with_queue w q ≡ w
requeued w q same = ap (with_queue w) same

pub lowering_as : {new : Working} (drop : Drop) (old old' : Working) → old ≡ old' → IsLowering drop old new → IsLowering drop old' new
lowering_as {new} drop old old' same is = subst (λ (w : Working). IsLowering drop w new) same is

pub same_as : {new : Working} (old old' : Working) → old ≡ old' → IsSameWork old new → IsSameWork old' new
same_as {new} old old' same is = subst (λ (w : Working). IsSameWork w new) same is

-- What is written back where it stood.
pub restored : {X : Type 0} (xs : List X) (i : ℕ) (x y : X) → x ≡ get_or xs i x → slice_set (slice_set xs i y) i x ≡ xs
restored {X} xs i x y at = set-set xs i y x ∙ ap (λ (z : X). slice_set xs i z) at ∙ set-get_or xs i x

-- One drop more, where there was room for it.
pub dropped : (r : Result (Unit {0}) (AllocFailed Lowering)) (old new : List Lowering) (drop : Lowering) → is_ok r ≡ true → new ≡ (if is_ok r then old ++ drop ∷ [] else old)
    → map drop_of new ≡ map drop_of old ++ drop_of drop ∷ []
dropped r old new drop ok is = ap (map drop_of) (is ∙ cond-true (is_ok r) (old ++ drop ∷ []) old ok) ∙ map_push drop_of old drop

-- The same, where all that changes has other names.
pub keeps_all : (base k d target : ℕ) (counts queued queued' : List Bool) (labels labels' : List (Option Label)) (drops drops' : List Drop) (c c' : Plain) (leaves leaves' : List (List Node)) (stale stale' : List Bool)
    → queued' ≡ queued → labels' ≡ labels → drops' ≡ drops → c' ≡ c → leaves' ≡ leaves → stale' ≡ stale → Keeps base c k d target counts queued labels drops leaves stale
    → Keeps base c' k d target counts queued' labels' drops' leaves' stale'
keeps_all base k d target counts queued queued' labels labels' drops drops' c c' leaves leaves' stale stale' waits same made circuit cuts marks keeps =
    subst (λ (ls : List (Option Label)). Keeps base c' k d target counts queued' ls drops' leaves' stale') (sym same)
    (subst (λ (ds : List Drop). Keeps base c' k d target counts queued' labels ds leaves' stale') (sym made)
    (keeps_as base c c' k d target counts queued queued' labels drops leaves leaves' stale stale' circuit waits cuts marks keeps))

-- The walks of all drops so far are barriers under the labels.
pub have_barriers : (base : ℕ) (c : Plain) (k d target : ℕ) (drops : List Drop) (labels : List (Option Label)) → LeadTo base c k d target drops labels → HaveBarriers base c k labels drops
have_barriers base c k d target drops labels led drop stands =
    subst (λ (ls : List (Option Label)). HasBarrier base c k ls drop) (sym led.led) (stands_all base c k target (first_labels c.drives d target) drops drop led.replays stands)

-- Files written one after the other.
use Rattle.std.proofs.Common.{◌≡◌, ◌≢◌, ◌≤◌, ℕ, List, [], ◌∷◌, ◌++◌, ◌<◌, suc, Option, None, Some, true, false, map, length, take, drop, get_or, refl, subst, sym, ap, ◌∙◌, arith, length-append}
use Rattle.std.specs.Prelude.{IsSome, IfSome}
use Rattle.std.specs.List.{AllByRecursion}
use Rattle.std.proofs.Math.Seq.{drop-cons}
use Rattle.std.proofs.lemmas.List.{map-append, take_more, take-append-drop}
use Rattle.tm_store.specs.Faults.{Rose}
use Rattle.tm_store.specs.Files.{Files, Tells, KeepsOthers}
use Rattle.turbomap.specs.declared.ready.Output.{Output}
use Rattle.turbomap.specs.Command.{Write, Stored, IsApart, AreHeld, names_of, AreFilesAfter, IsChangedBy, IsWritten}
use Rattle.turbomap.specs.Prepared.{seen, AreApart, SaysUnwritten}
use Rattle.turbomap.proofs.Lines.{rose_later}

-- ---- names that differ

-- none of the files written has the name
abbrev pub Differs : List ℕ → List Write → Type 0
Differs name writes = AllByRecursion (λ (write : Write). write.name ≢ name) writes

apart_one : (name : List ℕ) (writes : List Write) (write : Write) (rest : List Write) → IsApart name (names_of (writes ++ write ∷ rest)) → name ≢ write.name
apart_one name [] write rest apart = apart.0
apart_one name (other ∷ writes) write rest apart = apart_one name writes write rest apart.1

pub apart_before : (writes : List Write) (write : Write) (rest : List Write) → AreApart (names_of (writes ++ write ∷ rest)) → Differs write.name writes
apart_before [] write rest apart = tt
apart_before (other ∷ writes) write rest apart =
    (apart_one other.name writes write rest apart.0, apart_before writes write rest apart.1)

apart_lost : (name : List ℕ) (writes : List Write) (lost : List ℕ) → IsApart name (names_of writes ++ lost ∷ []) → IsApart name (names_of writes ++ []) × (name ≢ lost)
apart_lost name [] lost apart = (tt, apart.0)
apart_lost name (write ∷ writes) lost apart =
    let rest = apart_lost name writes lost apart.1 in ((apart.0, rest.0), rest.1)

apart_more : (name : List ℕ) (writes : List Write) (write : Write) → IsApart name (names_of (writes ++ write ∷ []) ++ []) → IsApart name (names_of writes ++ []) × (name ≢ write.name)
apart_more name [] write apart = (tt, apart.0)
apart_more name (other ∷ writes) write apart =
    let rest = apart_more name writes write apart.1 in ((apart.0, rest.0), rest.1)

-- ---- what files hold

none_tells : IsSome {T = Files} None → ⊥
none_tells tells = let path : false ≡ true = tells in cc

held_still : (writes : List Write) (name : List ℕ) (old new : Files) → Differs name writes → ((n : List ℕ) → n ≢ name → new n ≡ old n) → AreHeld writes old → AreHeld writes new
held_still [] name old new differs keeps held = tt
held_still (write ∷ writes) name old new differs keeps held =
    (keeps write.name differs.0 ∙ held.0, held_still writes name old new differs.1 keeps held.1)

held_more : (writes : List Write) (write : Write) (files : Files) → AreHeld writes files → files write.name ≡ Some write.bytes → AreHeld (writes ++ write ∷ []) files
held_more [] write files held last = (last, tt)
held_more (other ∷ writes) write files held last = (held.0, held_more writes write files held.1 last)

after_write : (writes : List Write) (write : Write) (old middle new : Files) → AreFilesAfter writes [] old middle → Differs write.name writes
    → new write.name ≡ Some write.bytes → ((n : List ℕ) → n ≢ write.name → new n ≡ middle n) → AreFilesAfter (writes ++ write ∷ []) [] old new
after_write writes write old middle new after differs written keeps = record {
  held = held_more writes write new (held_still writes write.name middle new differs keeps after.held) written;
  others = λ name apart. let both = apart_more name writes write apart in keeps name both.1 ∙ after.others name both.0;
}

after_failed : (writes : List Write) (lost : List ℕ) (old middle new : Files) → AreFilesAfter writes [] old middle → Differs lost writes
    → ((n : List ℕ) → n ≢ lost → new n ≡ middle n) → AreFilesAfter writes (lost ∷ []) old new
after_failed writes lost old middle new after differs keeps = record {
  held = held_still writes lost middle new differs keeps after.held;
  others = λ name apart. let both = apart_lost name writes lost apart in keeps name both.1 ∙ after.others name both.0;
}

more_told : (writes : List Write) (write : Write) (before now next : Option Files) → IfSome before (λ old. IfSome now (AreFilesAfter writes [] old))
    → (IsSome before → IsSome now) → Differs write.name writes → IfSome next (λ files. files write.name ≡ Some write.bytes)
    → KeepsOthers now next write.name → IfSome before (λ old. IfSome next (AreFilesAfter (writes ++ write ∷ []) [] old))
more_told writes write None now next files tells differs written keeps = tt
more_told writes write (Some old) None next files tells differs written keeps = absurd (none_tells (tells refl))
more_told writes write (Some old) (Some middle) None files tells differs written keeps = tt
more_told writes write (Some old) (Some middle) (Some new) files tells differs written keeps =
    after_write writes write old middle new files differs written keeps

failed_told : (writes : List Write) (lost : List ℕ) (before now next : Option Files) → IfSome before (λ old. IfSome now (AreFilesAfter writes [] old))
    → (IsSome before → IsSome now) → Differs lost writes → KeepsOthers now next lost
    → IfSome before (λ old. IfSome next (AreFilesAfter writes (lost ∷ []) old))
failed_told writes lost None now next files tells differs keeps = tt
failed_told writes lost (Some old) None next files tells differs keeps = absurd (none_tells (tells refl))
failed_told writes lost (Some old) (Some middle) None files tells differs keeps = tt
failed_told writes lost (Some old) (Some middle) (Some new) files tells differs keeps = after_failed writes lost old middle new files differs keeps

-- ---- the writes so far

-- the last of some writes, or the given one where there is none
last_of : Write → List Write → Write
last_of write [] = write
last_of write (next ∷ writes) = last_of next writes

last_more : (first : Write) (writes : List Write) (write : Write) → last_of first (writes ++ write ∷ []) ≡ write
unfolding last_of
last_more first [] write = refl
last_more first (next ∷ writes) write = last_more next writes write

last_same : (writes others : List Write) (write other : Write) → writes ++ write ∷ [] ≡ others ++ other ∷ [] → write ≡ other
last_same writes others write other same =
    sym (last_more write writes write) ∙ ap (λ (all : List Write). last_of write all) same ∙ last_more write others other

never_none : (earlier : List Write) (write : Write) → [] ≡ earlier ++ write ∷ [] → ⊥
never_none [] write is = cc
never_none (other ∷ earlier) write is = cc

-- These were written, each with success.
pub record HaveWritten (before now : Option Files) (first second : List ℕ → ℕ) (writes : List Write) : Type 0 where
  pub counts : (name : List ℕ) → first name ≤ second name
  pub tells : IsSome before → IsSome now
  pub files : IfSome before (λ old. IfSome now (AreFilesAfter writes [] old))
  pub idle : writes ≡ [] → now ≡ before
  pub last : (earlier : List Write) (write : Write) → writes ≡ earlier ++ write ∷ [] → IfSome now (λ files. files write.name ≡ Some write.bytes)

none_told : (before : Option Files) → IfSome before (λ old. IfSome before (AreFilesAfter [] [] old))
none_told None = tt
none_told (Some old) = record { held = tt; others = λ name apart. refl }

pub before_writes : (before : Option Files) (counts : List ℕ → ℕ) → HaveWritten before before counts counts []
before_writes before counts = record {
  counts = λ name. omega arith;
  tells = λ told. told;
  files = none_told before;
  idle = λ _. refl;
  last = λ earlier write is. absurd (never_none earlier write is);
}

pub one_write : (before now next : Option Files) (first second third : List ℕ → ℕ) (writes : List Write) (write : Write)
    → HaveWritten before now first second writes → Differs write.name writes → IfSome next (λ files. files write.name ≡ Some write.bytes)
    → KeepsOthers now next write.name → Tells now next → ((name : List ℕ) → second name ≤ third name)
    → HaveWritten before next first third (writes ++ write ∷ [])
one_write before now next first second third writes write have differs written keeps tells counts = record {
  counts = λ name. let one = have.counts name in let other = counts name in omega arith;
  tells = λ told. tells (have.tells told);
  files = more_told writes write before now next have.files have.tells differs written keeps;
  idle = λ is. absurd (never_none writes write (sym is));
  last = λ earlier other is. subst (λ (w : Write). IfSome next (λ files. files w.name ≡ Some w.bytes)) (last_same writes earlier write other is) written;
}

no_names : (writes : List Write) → names_of writes ++ [] ≡ [] → writes ≡ []
no_names [] is = refl
no_names (write ∷ writes) is = absurd (cc is)

some_names : (writes : List Write) (lost : List ℕ) → names_of writes ++ lost ∷ [] ≡ [] → ⊥
some_names [] lost is = cc
some_names (write ∷ writes) lost is = cc

pub all_written : (before now : Option Files) (first second : List ℕ → ℕ) (writes : List Write) → HaveWritten before now first second writes → IsWritten writes before now
all_written before now first second writes have = record {
  changed = record { tells = have.tells; files = have.files; idle = λ is. have.idle (no_names writes is) };
  last = have.last;
}

pub lost_one : (s : Stored) (now : Option Files) (second : List ℕ → ℕ) (writes : List Write) (lost : List ℕ)
    → HaveWritten s.before now s.unwritten_before second writes → Differs lost writes → KeepsOthers now s.after lost → Tells now s.after
    → IsChangedBy writes (lost ∷ []) s.before s.after
lost_one s now second writes lost have differs keeps tells = record {
  tells = λ told. tells (have.tells told);
  files = failed_told writes lost s.before now s.after have.files have.tells differs keeps;
  idle = λ is. absurd (some_names writes lost is);
}

pub lost_rose : (s : Stored) (now : Option Files) (second : List ℕ → ℕ) (writes : List Write) (lost : List ℕ)
    → HaveWritten s.before now s.unwritten_before second writes → Rose (second lost) (s.unwritten_after lost)
    → Rose (s.unwritten_before lost) (s.unwritten_after lost)
lost_rose s now second writes lost have rose = rose_later _ _ _ (have.counts lost) rose

-- ---- the files of the code, one after the other

-- those that were yielded so far, and the next one, in the list of all
pub cut_yielded : {A : Type 0} (all yielded : List A) (x : A) → yielded ≡ take (length yielded) all → length yielded < length all
    → x ≡ get_or all (length yielded) x → all ≡ yielded ++ x ∷ drop (suc (length yielded)) all
cut_yielded {A} all yielded x is below at =
    sym (take-append-drop (length yielded) all)
    ∙ ap (λ (rest : List A). take (length yielded) all ++ rest) (drop-cons all (length yielded) x below)
    ∙ ap (λ (front : List A). front ++ get_or all (length yielded) x ∷ drop (suc (length yielded)) all) (sym is)
    ∙ ap (λ (next : A). yielded ++ next ∷ drop (suc (length yielded)) all) (sym at)

pub more_yielded : {A : Type 0} (all yielded : List A) (x : A) → yielded ≡ take (length yielded) all → length yielded < length all
    → x ≡ get_or all (length yielded) x → yielded ++ x ∷ [] ≡ take (length (yielded ++ x ∷ [])) all
more_yielded {A} all yielded x is below at =
    ap (λ (next : A). yielded ++ next ∷ []) at
    ∙ ap (λ (front : List A). front ++ get_or all (length yielded) x ∷ []) is
    ∙ sym (take_more all (length yielded) x below)
    ∙ ap (λ (n : ℕ). take n all) (sym (length-append yielded (x ∷ [])))

pub differs_at : (outputs yielded : List Output) (output : Output) (rest : List Output) → outputs ≡ yielded ++ output ∷ rest
    → AreApart (names_of (map seen outputs)) → Differs output.name.now (map seen yielded)
differs_at outputs yielded output rest are apart =
    apart_before (map seen yielded) (seen output) (map seen rest)
    (subst (λ (writes : List Write). AreApart (names_of writes)) (ap (map seen) are ∙ map-append seen yielded (output ∷ rest)) apart)

line_of : (yielded : List Output) (output : Output) (rest : List Output) → AllByRecursion SaysUnwritten (yielded ++ output ∷ rest) → SaysUnwritten output
line_of [] output rest all = all.0
line_of (other ∷ yielded) output rest all = line_of yielded output rest all.1

pub line_at : (outputs yielded : List Output) (output : Output) (rest : List Output) → outputs ≡ yielded ++ output ∷ rest
    → AllByRecursion SaysUnwritten outputs → SaysUnwritten output
line_at outputs yielded output rest are all = line_of yielded output rest (subst (λ (os : List Output). AllByRecursion SaysUnwritten os) are all)

-- one more of them was written
pub one_output : (before now next : Option Files) (first second third : List ℕ → ℕ) (yielded : List Output) (output : Output)
    → HaveWritten before now first second (map seen yielded) → Differs output.name.now (map seen yielded)
    → IfSome next (λ files. files output.name.now ≡ Some output.bytes.items) → KeepsOthers now next output.name.now → Tells now next
    → ((name : List ℕ) → second name ≤ third name) → HaveWritten before next first third (map seen (yielded ++ output ∷ []))
one_output before now next first second third yielded output have differs written keeps tells counts =
    subst (HaveWritten before next first third) (sym (map-append seen yielded (output ∷ [])))
    (one_write before now next first second third (map seen yielded) (seen output) have differs written keeps tells counts)

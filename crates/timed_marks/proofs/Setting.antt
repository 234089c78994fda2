-- Marks set one node after another: those of the first nodes are told, and the rest unset.
use Rattle.std.proofs.Common.{◌≡◌, refl, sym, ap, ◌∙◌, subst, append_assoc, arith, ℕ, suc, ◌+◌, ◌<◌, ◌≤◌, Bool, List, [], ◌∷◌, ◌++◌, length, drop, get_or, Some}
use Rattle.std.proofs.lemmas.List.{at_drop_all, at_drop_more}
use Rattle.std.specs.Prelude.{replicate, slice_get, slice_set}
use Rattle.pyn_base.specs.declared.ids.NodeId.{NodeId}
use Rattle.py_frames.specs.declared.marks.Mark.{Mark}
use Rattle.py_frames.specs.Marked.{unmarked, marked, marked_at}
use Rattle.timed_marks.specs.declared.times.Times.{Times}
use Rattle.timed_marks.specs.Timed.{mark_before, marks_before}

-- the mark at a place changes
pub set_in : (change : Mark → Mark) (node : NodeId) (front rest : List Mark) (mark : Mark) → node.0 ≡ length front
    → marked change node (front ++ mark ∷ rest) ≡ front ++ change mark ∷ rest
set_in change node front rest mark e = subst (λ n. marked_at change (record { 0 = n }) (front ++ mark ∷ rest) (slice_get (front ++ mark ∷ rest) n) ≡ front ++ change mark ∷ rest) (sym e) (at front)
  where
    at : (front : List Mark) → marked_at change (record { 0 = length front }) (front ++ mark ∷ rest) (slice_get (front ++ mark ∷ rest) (length front)) ≡ front ++ change mark ∷ rest
    at front = ap (marked_at change (record { 0 = length front }) (front ++ mark ∷ rest)) (get front) ∙ put front
      where
        get : (front : List Mark) → slice_get (front ++ mark ∷ rest) (length front) ≡ Some mark
        get [] = refl
        get (one ∷ front) = get front

        put : (front : List Mark) → slice_set (front ++ mark ∷ rest) (length front) (change mark) ≡ front ++ change mark ∷ rest
        put [] = refl
        put (one ∷ front) = ap (λ marks. one ∷ marks) (put front)

-- so many nodes' marks are set
pub record SetTo (end : ℕ) (all : List Times) (at : ℕ) (marks : List Mark) : Type 0 where
  pub front : List Mark
  pub marks_are : marks ≡ front ++ replicate (length (drop at all)) unmarked
  pub reached : length front ≡ at
  pub whole : front ++ marks_before end (drop at all) ≡ marks_before end all

pub none_set : (end : ℕ) (all : List Times) → SetTo end all 0 (replicate (length all) unmarked)
none_set end all = record { front = []; marks_are = refl; reached = refl; whole = refl }

pub one_more : (end : ℕ) (all : List Times) (at : ℕ) (times : Times) (mark : Mark) (node : NodeId) (old new : List Mark) → at < length all
    → mark ≡ mark_before end (get_or all at times) → node.0 ≡ at → SetTo end all at old
    → ((front rest : List Mark) → node.0 ≡ length front → old ≡ front ++ unmarked ∷ rest → new ≡ front ++ mark ∷ rest)
    → SetTo end all (at + 1) new
one_more end all at times mark node old new within item is set sets =
    let more = drop (at + 1) all in
    record {
      front = set.front ++ mark ∷ [];
      marks_are =
          sets set.front (replicate (length more) unmarked) (is ∙ sym set.reached)
          (set.marks_are ∙ at_drop_more (λ more. set.front ++ replicate (length more) unmarked) all at times within)
          ∙ sym (append_assoc set.front (mark ∷ []) (replicate (length more) unmarked));
      reached = length_next set.front mark ∙ ap (λ n. n + 1) set.reached;
      whole =
          append_assoc set.front (mark ∷ []) (marks_before end more)
          ∙ ap (λ mark. set.front ++ mark ∷ marks_before end more) item
          ∙ sym (at_drop_more (λ more. set.front ++ marks_before end more) all at times within)
          ∙ set.whole;
    }
  where
    length_next : (front : List Mark) (mark : Mark) → length (front ++ mark ∷ []) ≡ length front + 1
    length_next [] mark = omega arith
    length_next (one ∷ front) mark = let e : suc (length front + 1) ≡ suc (length front) + 1 = omega arith in ap suc (length_next front mark) ∙ e

pub all_set : (end : ℕ) (all : List Times) (at : ℕ) (marks : List Mark) → length all ≤ at → SetTo end all at marks → marks ≡ marks_before end all
all_set end all at marks past set =
    set.marks_are
    ∙ at_drop_all (λ more. set.front ++ replicate (length more) unmarked) all at past
    ∙ sym (at_drop_all (λ more. set.front ++ marks_before end more) all at past)
    ∙ set.whole

-- a mark that is to be set, and one that isn't
pub set_one : (change : Mark → Mark) (node : NodeId) (front rest : List Mark) (mark next : Mark) (old new : List Mark) → node.0 ≡ length front
    → old ≡ front ++ mark ∷ rest → new ≡ marked change node old → change mark ≡ next → new ≡ front ++ next ∷ rest
set_one change node front rest mark next old new at before is same =
    is ∙ ap (marked change node) before ∙ set_in change node front rest mark at ∙ ap (λ mark. front ++ mark ∷ rest) same

pub set_none : (front rest : List Mark) (mark next : Mark) (old new : List Mark) → old ≡ front ++ mark ∷ rest → new ≡ old → mark ≡ next → new ≡ front ++ next ∷ rest
set_none front rest mark next old new before is same = is ∙ before ∙ ap (λ mark. front ++ mark ∷ rest) same

abbrev pub marks : Bool → Bool → Bool → Mark
marks began held failed = record { began = began; held = held; failed = failed }

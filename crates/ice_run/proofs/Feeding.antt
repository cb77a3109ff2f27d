-- A session that reads one more byte, and one that ends.
use Rattle.std.proofs.Common.{Result, Ok, Err, OnOk, IfErr, ◌≡◌, ◌∙◌, ℕ, Bool, true, false, List, [], ◌∷◌, ◌++◌, length, take, sym, ap, subst, nat_eq, if◌then◌else◌, arith, ◌<◌, ◌+◌, drop, get_or, append_assoc}
use Rattle.std.proofs.lemmas.Bool.Decides.{nat_tests}
use Rattle.std.proofs.lemmas.List.{take_more, drop_more, take-append-drop}
use Rattle.ice_base.specs.Disk.{Image, DiskState}
use Rattle.ice_base.specs.declared.status.Status.{Status}
use Rattle.ice_base.specs.declared.status.Status.TheVariants.{Done, Usage, Memory, Source, Sink, Disk, Volume, Script, Small}
use Rattle.tree_spec.specs.Lines.{Line}
use Rattle.tree_spec.specs.World.{World}
use Rattle.ice_script.specs.Grammar.{line_of}
use Rattle.ice_script.specs.Reading.{Gathered}
use Rattle.ice_run.specs.Scripts.{script_lines, ended_lines}
use Rattle.ice_volume.specs.Volumes.{VolumeView}
use Rattle.ice_run.specs.Runs.{lines_of}
use Rattle.ice_run.specs.Sessions.{SoFar, BreaksOff, Serving}
use Rattle.ice_run.proofs.Scripts.{next_line, ended_lines-ended, ended_lines-other, rest-ended, rest-other, last_line, no_last_line, ended_ahead}

lf_of : (b : ℕ) → nat_eq b 10 ≡ true → b ≡ 10
lf_of b is = grind (arith, nat_tests, is)

pushed_lf : (b : ℕ) (old more new : List ℕ) → nat_eq b 10 ≡ true → new ≡ (if nat_eq b 10 then old else more) → new ≡ old
pushed_lf b old more new is text = text ∙ ap (λ (t : Bool). if t then old else more) is

pushed_other : (b : ℕ) (old more new : List ℕ) → nat_eq b 10 ≡ false → new ≡ (if nat_eq b 10 then old else more) → new ≡ more
pushed_other b old more new is text = text ∙ ap (λ (t : Bool). if t then old else more) is

pub on_ok : {T E P Q : Type 0} (r : Result T E) → (P → Q) → OnOk r P → OnOk r Q
on_ok (Ok x) f p = f p
on_ok (Err e) f p = p

pub if_err : {T E : Type 0} {P Q : E → Type 0} (r : Result T E) → ((e : E) → P e → Q e) → IfErr r P → IfErr r Q
if_err (Ok x) f p = p
if_err (Err e) f p = f e p

-- a session that broke off in some lines did so in more of them
pub breaks_more : {D : Type 0} (state : D → DiskState) (left : D → ℕ → Image → List ℕ
    → Type 0) (w : World) (script : List Line) (heard more all : List Line) (start new : D)
    → all ≡ heard ++ more → (status : Status)
    → BreaksOff state left w script status heard start new → BreaksOff state left w script status all start new
breaks_more state left w script heard more all start new is Sink cut = record {
  lines = cut.lines;
  tail = cut.tail;
  gave = cut.gave;
  reply = cut.reply;
  then = cut.then;
  next = record {
    line = cut.next.line;
    ahead = cut.next.ahead ++ more;
    lines = is ∙ ap (λ (x : List Line). x ++ more) cut.next.lines ∙ append_assoc (lines_of cut.gave.steps) (cut.next.line ∷ cut.next.ahead) more;
    step = cut.next.step;
  };
  part = cut.part;
  names = cut.names;
  crash = cut.crash;
  spares = cut.spares;
}
breaks_more state left w script heard more all start new is Disk cut = record {
  lines = cut.lines;
  gave = cut.gave;
  line = cut.line;
  ahead = cut.ahead ++ more;
  next = is ∙ ap (λ (x : List Line). x ++ more) cut.next ∙ append_assoc (lines_of cut.gave.steps) (cut.line ∷ cut.ahead) more;
  order = cut.order;
  faults = cut.faults;
  crash = cut.crash;
  spares = cut.spares;
}
breaks_more state left w script heard more all start new is Done cut = cut
breaks_more state left w script heard more all start new is Usage cut = cut
breaks_more state left w script heard more all start new is Memory cut = cut
breaks_more state left w script heard more all start new is Source cut = cut
breaks_more state left w script heard more all start new is Volume cut = cut
breaks_more state left w script heard more all start new is Script cut = cut
breaks_more state left w script heard more all start new is Small cut = cut

module _ {D T : Type 0} (state : D → DiskState) (left : D → ℕ → Image → List ℕ → Type 0) (w : World) (input taken ahead : List ℕ) (b : ℕ)
    (start mid new : D) (v z : VolumeView) (old pushed reader : Gathered) (result : Result T Status)
    (serving : Serving state left w v input taken start mid old) (is : input ≡ taken ++ b ∷ ahead)
    (text : pushed.text ≡ (if nat_eq b 10 then old.text else take 40001 (old.text ++ b ∷ []))) where
  held : nat_eq b 10 ≡ true → pushed.text ≡ old.text
  held lf = pushed_lf b old.text (take 40001 (old.text ++ b ∷ [])) pushed.text lf text

  next_here : (lf : nat_eq b 10 ≡ true) → (more : List Line) × (script_lines input ≡ ended_lines taken ++ line_of pushed.text ∷ more)
  next_here lf = next_line input taken ahead pushed.text b (lf_of b lf) is (held lf ∙ serving.holds)

  ended_here : (lf : nat_eq b 10 ≡ true) → ended_lines taken ++ line_of pushed.text ∷ [] ≡ ended_lines (taken ++ b ∷ [])
  ended_here lf = sym (ended_lines-ended taken pushed.text b (lf_of b lf) (held lf ∙ serving.holds))

  -- an LF ends the line that the reader holds
  pub fed_line : nat_eq b 10 ≡ true → OnOk result (reader.text ≡ [])
      → ((more : List Line) → script_lines input ≡ ended_lines taken ++ line_of pushed.text ∷ more
      → OnOk result (SoFar state left w (script_lines input) z (ended_lines taken ++ line_of pushed.text ∷ []) start new))
      → OnOk result (Serving state left w z input (taken ++ b ∷ []) start new reader)
  fed_line lf empty answered = by result empty (answered (next_here lf).0 (next_here lf).1)
    where
      by : (r : Result T Status) → OnOk r (reader.text ≡ [])
          → OnOk r (SoFar state left w (script_lines input) z (ended_lines taken ++ line_of pushed.text ∷ []) start new)
          → OnOk r (Serving state left w z input (taken ++ b ∷ []) start new reader)
      by (Ok x) none so_far = record {
        so_far = subst (λ (lines : List Line). SoFar state left w (script_lines input) z lines start new) (ended_here lf) so_far;
        holds = none ∙ rest-ended taken b (lf_of b lf);
      }
      by (Err e) none so_far = so_far

  pub fed_cut : nat_eq b 10 ≡ true
      → ((more : List Line) → script_lines input ≡ ended_lines taken ++ line_of pushed.text ∷ more
      → IfErr result (λ status. BreaksOff state left w (script_lines input) status (ended_lines taken ++ line_of pushed.text ∷ []) start new))
      → IfErr result (λ status. BreaksOff state left w (script_lines input) status (ended_lines (taken ++ b ∷ [])) start new)
  fed_cut lf answered =
      if_err result
      (λ status cut. subst (λ (lines : List Line). BreaksOff state left w (script_lines input) status lines start new) (ended_here lf) cut)
      (answered (next_here lf).0 (next_here lf).1)

module _ {D : Type 0} (state : D → DiskState) (left : D → ℕ → Image → List ℕ → Type 0) (w : World) (input taken : List ℕ) (b : ℕ)
    (start mid : D) (v : VolumeView) (old pushed : Gathered)
    (serving : Serving state left w v input taken start mid old)
    (text : pushed.text ≡ (if nat_eq b 10 then old.text else take 40001 (old.text ++ b ∷ []))) where
  -- another byte is held with the line
  pub fed_byte : nat_eq b 10 ≡ false → Serving state left w v input (taken ++ b ∷ []) start mid pushed
  fed_byte other = record {
    so_far = subst (λ (lines : List Line). SoFar state left w (script_lines input) v lines start mid) (sym (ended_lines-other taken b other)) serving.so_far;
    holds = rest-other taken old.text pushed.text b other serving.holds (pushed_other b old.text (take 40001 (old.text ++ b ∷ [])) pushed.text other text);
  }

module _ {D T : Type 0} (state : D → DiskState) (left : D → ℕ → Image → List ℕ → Type 0) (w : World) (input : List ℕ) (start mid new : D)
    (v z : VolumeView) (reader same : Gathered) (result : Result T Status)
    (serving : Serving state left w v input input start mid reader) (stays : same ≡ reader) (some : nat_eq (length reader.text) 0 ≡ false) where
  last_here : script_lines input ≡ ended_lines input ++ line_of same.text ∷ []
  last_here =
      let still : same.text ≡ reader.text = ap (λ (x : Gathered). x.text) stays in
      last_line input same.text (ap (λ (x : List ℕ). nat_eq (length x) 0) still ∙ some) (still ∙ serving.holds)

  -- a last line that no LF ended is answered
  pub closed_ok : ((more : List Line) → script_lines input ≡ ended_lines input ++ line_of same.text ∷ more
      → OnOk result (SoFar state left w (script_lines input) z (ended_lines input ++ line_of same.text ∷ []) start new))
      → OnOk result (SoFar state left w (script_lines input) z (script_lines input) start new)
  closed_ok answered =
      on_ok result
      (λ so_far. subst (λ (lines : List Line). SoFar state left w (script_lines input) z lines start new) (sym last_here) so_far) (answered [] last_here)

  pub closed_err : ((more : List Line) → script_lines input ≡ ended_lines input ++ line_of same.text ∷ more
      → IfErr result (λ status. BreaksOff state left w (script_lines input) status (ended_lines input ++ line_of same.text ∷ []) start new))
      → IfErr result (λ status. BreaksOff state left w (script_lines input) status (script_lines input) start new)
  closed_err answered =
      if_err result
      (λ status cut. subst (λ (lines : List Line). BreaksOff state left w (script_lines input) status lines start new) (sym last_here) cut)
      (answered [] last_here)

module _ {D : Type 0} (state : D → DiskState) (left : D → ℕ → Image → List ℕ → Type 0) (w : World) (input : List ℕ) (start mid : D)
    (v : VolumeView) (reader : Gathered) (serving : Serving state left w v input input start mid reader) where
  -- nothing stands behind the last LF
  pub closed_none : nat_eq (length reader.text) 0 ≡ true → SoFar state left w (script_lines input) v (script_lines input) start mid
  closed_none none =
      subst (λ (lines : List Line). SoFar state left w (script_lines input) v lines start mid)
      (sym (no_last_line input reader.text none serving.holds)) serving.so_far

-- the byte at a place of a piece, and what comes behind it
pub piece_step : (input taken piece ahead : List ℕ) (i : ℕ) → i < length piece → input ≡ taken ++ piece ++ ahead
    → input ≡ (taken ++ take i piece) ++ get_or piece i 0 ∷ (drop (i + 1) piece ++ ahead)
piece_step input taken piece ahead i less is =
    let parts : piece ≡ take i piece ++ get_or piece i 0 ∷ drop (i + 1) piece = sym (take-append-drop i piece)
    ∙ ap (λ (x : List ℕ). take i piece ++ x) (drop_more piece i 0 less) in
    is ∙ ap (λ (x : List ℕ). taken ++ x ++ ahead) parts ∙ simp append_assoc

pub piece_more : (taken piece : List ℕ) (i : ℕ) → i < length piece → taken ++ take (i + 1) piece ≡ (taken ++ take i piece) ++ get_or piece i 0 ∷ []
piece_more taken piece i less = ap (λ (x : List ℕ). taken ++ x) (take_more piece i 0 less) ∙ sym (append_assoc taken (take i piece) (get_or piece i 0 ∷ []))

-- the lines that are ended up to a byte of a piece are the first of those that are ended in the whole piece
pub piece_ended : (taken piece : List ℕ) (i : ℕ) → i < length piece
    → (more : List Line) × (ended_lines (taken ++ piece) ≡ ended_lines ((taken ++ take i piece) ++ get_or piece i 0 ∷ []) ++ more)
piece_ended taken piece i less =
    let parts : piece ≡ take i piece ++ get_or piece i 0 ∷ drop (i + 1) piece = sym (take-append-drop i piece)
    ∙ ap (λ (x : List ℕ). take i piece ++ x) (drop_more piece i 0 less) in
    let whole : taken ++ piece ≡ ((taken ++ take i piece) ++ get_or piece i 0 ∷ []) ++ drop (i + 1) piece = ap
    (λ (x : List ℕ). taken ++ x) parts ∙ simp append_assoc in
    let more = ended_ahead ((taken ++ take i piece) ++ get_or piece i 0 ∷ []) (drop (i + 1) piece) in
    (more.0, ap ended_lines whole ∙ more.1)

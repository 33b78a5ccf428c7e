-- Texts put into a buffer: the buffer keeps its length, and a text put right behind another is both put as one. Assumes
-- nothing.
use Prim.Native.Nat.{ℕ, ◌+◌, ◌≤◌, ◌<◌}
use native.Mathlib.Nat.{add-zero, add_assoc}
use native.Mathlib.Decide.{dec_le}
use native.Mathlib.Omega.{arith}
use native.Mathlib.Numerals.{add-one}
use mathlib.Core.Path.{◌≡◌, refl, ◌∙◌}
use mathlib.Core.List.{List, [], ◌∷◌, ◌++◌, append_assoc, append-nil}
use lib.ListN.{length, take, drop, set, length-append, length-take, length-drop, drop_of_length-le, take-append-drop}
use lib.Seq.{length-take-le, take_all, take_at, drop_at, drop-drop, set_split, append_snoc}
use Rattle.text.specs.declared.Text.{Text}
use Rattle.text.specs.Put.{put_at, Writes}

pub put_at_length :
    (buffer text : List ℕ) (at : ℕ) → at + length text ≤ length buffer → length (put_at buffer at text) ≡ length buffer
unfolding put_at
put_at_length buffer text at h =
    let fits : at ≤ length buffer = omega arith in
    simp (length-append, length-take-le at buffer fits, length-drop) (omega arith)

-- nothing stands beyond a list's end
beyond : (n : ℕ) (l : List ℕ) → length l ≤ n → drop n l ≡ []
beyond n l h = drop_of_length-le l h

-- a text and another right behind it
pub put_at_append :
    (buffer text more : List ℕ) (at : ℕ)
    → put_at (put_at buffer at text) (at + length text) more ≡ put_at buffer at (text ++ more)
unfolding put_at
put_at_append buffer text more at = go (dec_le at (length buffer))
  where
    front : List ℕ
    front = take at buffer ++ text

    rest : List ℕ
    rest = drop (at + length text) buffer

    go : Dec (at ≤ length buffer) → put_at (put_at buffer at text) (at + length text) more ≡ put_at buffer at (text ++ more)
    go (yes h) =
        let reach : length front ≡ at + length text = length-append (take at buffer) text ∙ rw (length-take-le at buffer h) in
        rw (
          take_at front rest (at + length text) reach,
          ← drop-drop (length more) (at + length text) (front ++ rest),
          drop_at front rest (at + length text) reach,
          drop-drop (length more) (at + length text) buffer,
          add_assoc at (length text) (length more),
          length-append text more,
          append_assoc (take at buffer) text more,
        )
    go (no h) =
        let reach : length front ≤ at + length text = simp (length-append, length-take) (omega arith) in
        rw (
          beyond (at + length text) buffer (omega arith),
          append-nil front,
          take_all (at + length text) front reach,
          beyond (at + length text + length more) front (omega arith),
          beyond (at + length (text ++ more)) buffer (omega arith),
          append_assoc (take at buffer) text more,
        )

-- a piece, and another right behind it
pub writes_then :
    {start middle end : Text} {piece more : List ℕ}
    → Writes start middle piece → Writes middle end more → Writes start end (piece ++ more)
writes_then {start} {middle} {end} {piece} {more} first second = record {
  same = second.same ∙ first.same;
  room = second.room ∙ first.room;
  next = rw length-append (omega (arith, first.next, second.next));
  leaves = second.leaves ∙ rw (first.leaves, first.next) (put_at_append start.out.now piece more start.at);
}

-- what is put at the front of a buffer stands there
pub text_in_front :
    {k : ℕ} {after : List ℕ} (text buffer : List ℕ) → (k ≡ length text) × (after ≡ put_at buffer 0 text) → take k after ≡ text
unfolding put_at
text_in_front text buffer put = rw (put.0, put.1) (take_at text _ (length text) refl)

-- no piece at all
pub writes_nothing : (text : Text) → Writes text text []
unfolding put_at
writes_nothing text = record { same = refl; room = refl; next = rw add-zero; leaves = rw (append-nil, add-zero, take-append-drop) }

-- one byte
pub put_at_byte : (buffer : List ℕ) (at b : ℕ) → at < length buffer → set buffer at b ≡ put_at buffer at (b ∷ [])
unfolding put_at
put_at_byte buffer at b h = rw (set_split, add-one, append_snoc)

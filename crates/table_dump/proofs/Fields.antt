-- Fields that are put behind one another with a comma or a line feed each make a line, behind what was there.
use Rattle.std.proofs.Common.{◌≡◌, ℕ, List, [], ◌∷◌, ◌++◌, ap, sym, ◌∙◌, append_assoc}
use Rattle.std.specs.List.{join_with_byte}
use Rattle.plane_model.specs.Texts.{text_line}

-- a field and its comma in front of a line
field_before : (front a b : List ℕ) (more : List (List ℕ)) → (front ++ (a ++ (44 ∷ []))) ++ text_line (b ∷ more) ≡ front ++ text_line (a ∷ b ∷ more)
field_before front a b more =
    let rest = join_with_byte 44 (b ∷ more) in
    append_assoc front (a ++ (44 ∷ [])) (rest ++ (10 ∷ []))
    ∙ ap (λ z. front ++ z) (append_assoc a (44 ∷ []) (rest ++ (10 ∷ [])) ∙ sym (append_assoc a (44 ∷ rest) (10 ∷ [])))

pub one_field : (l0 l1 a : List ℕ) → l1 ≡ l0 ++ (a ++ (10 ∷ [])) → l1 ≡ l0 ++ text_line (a ∷ [])
one_field l0 l1 a e1 = e1

pub two_fields : (l0 l1 l2 a b : List ℕ) → l1 ≡ l0 ++ (a ++ (44 ∷ [])) → l2 ≡ l1 ++ (b ++ (10 ∷ [])) → l2 ≡ l0 ++ text_line (a ∷ b ∷ [])
two_fields l0 l1 l2 a b e1 e2 = e2 ∙ ap (λ z. z ++ (b ++ (10 ∷ []))) e1 ∙ field_before l0 a b []

pub seven_fields : (l0 l1 l2 l3 l4 l5 l6 l7 a b c d e f g : List ℕ) → l1 ≡ l0 ++ (a ++ (44 ∷ [])) → l2 ≡ l1 ++ (b ++ (44 ∷ [])) → l3 ≡ l2 ++ (c ++ (44 ∷ [])) → l4 ≡ l3 ++ (d ++ (44 ∷ []))
    → l5 ≡ l4 ++ (e ++ (44 ∷ [])) → l6 ≡ l5 ++ (f ++ (44 ∷ [])) → l7 ≡ l6 ++ (g ++ (10 ∷ [])) → l7 ≡ l0 ++ text_line (a ∷ b ∷ c ∷ d ∷ e ∷ f ∷ g ∷ [])
seven_fields l0 l1 l2 l3 l4 l5 l6 l7 a b c d e f g e1 e2 e3 e4 e5 e6 e7 =
    e7
    ∙ ap (λ z. z ++ text_line (g ∷ [])) e6
    ∙ field_before l5 f g []
    ∙ ap (λ z. z ++ text_line (f ∷ g ∷ [])) e5
    ∙ field_before l4 e f (g ∷ [])
    ∙ ap (λ z. z ++ text_line (e ∷ f ∷ g ∷ [])) e4
    ∙ field_before l3 d e (f ∷ g ∷ [])
    ∙ ap (λ z. z ++ text_line (d ∷ e ∷ f ∷ g ∷ [])) e3
    ∙ field_before l2 c d (e ∷ f ∷ g ∷ [])
    ∙ ap (λ z. z ++ text_line (c ∷ d ∷ e ∷ f ∷ g ∷ [])) e2
    ∙ field_before l1 b c (d ∷ e ∷ f ∷ g ∷ [])
    ∙ ap (λ z. z ++ text_line (b ∷ c ∷ d ∷ e ∷ f ∷ g ∷ [])) e1
    ∙ field_before l0 a b (c ∷ d ∷ e ∷ f ∷ g ∷ [])

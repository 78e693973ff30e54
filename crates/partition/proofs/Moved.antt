-- What is known of a result goes on to what follows.
use Rattle.std.proofs.Common.{Option, None, Some, Result, Ok, Err, OnOk, OnErr, IfOk, IfSome}

pub on_ok_with : {X Y M N : Type 0} (r : Result X Y) → OnOk r M → (M → N) → OnOk r N
on_ok_with (Ok x) m f = f m
on_ok_with (Err e) m f = tt

pub on_err_with : {X Y M N : Type 0} (r : Result X Y) → OnErr r M → (M → N) → OnErr r N
on_err_with (Ok x) m f = tt
on_err_with (Err e) m f = f m

-- a result is no error where the error can't be
pub is_ok_where : {X Y M N : Type 0} (r : Result X Y) → OnOk r M → OnErr r N → (N → ⊥) → M
is_ok_where (Ok x) m n no' = m
is_ok_where (Err e) m n no' = absurd (no' n)

-- what follows from either end, of which two facts are known
pub either_end : {X Y M N T U Q : Type 0} (r : Result X Y) → OnOk r M → OnOk r N → OnErr r T → OnErr r U → (M → N → Q) → (T → U → Q) → Q
either_end (Ok x) m n t u f g = f m n
either_end (Err e) m n t u f g = g t u

pub if_ok_with : {X Y : Type 0} {M N : X → Type 0} (r : Result X Y) → IfOk r M → ((x : X) → M x → N x) → IfOk r N
if_ok_with (Ok x) m f = f x m
if_ok_with (Err e) m f = tt

pub if_ok_and : {X Y N : Type 0} {M T : X → Type 0} (r : Result X Y) → IfOk r M → OnOk r N → ((x : X) → M x → N → T x) → IfOk r T
if_ok_and (Ok x) m n f = f x m n
if_ok_and (Err e) m n f = tt

pub if_some_with : {X : Type 0} {M N : X → Type 0} (o : Option X) → IfSome o M → ((x : X) → M x → N x) → IfSome o N
if_some_with (Some x) m f = f x m
if_some_with None m f = tt

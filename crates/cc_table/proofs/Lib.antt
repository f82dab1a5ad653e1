mod Choose
